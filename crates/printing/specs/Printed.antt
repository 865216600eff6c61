-- What a program prints for the bytes of a form, said for any text of a build: the text of what the build makes of the mesh whose form they are, or the line of a refusal.
-- Definitions only.
use Rattle.std.specs.Prelude.{true, ◌≡◌, List, ◌≢◌, ℕ, ◌≤◌, eqb, take}
use Rattle.base.specs.common.Pick.{pick}
use Rattle.plane.specs.declared.given.Given.{Given}
use Rattle.mesh.specs.Accepted.{Mesh}
use Rattle.admission.specs.Admits.{Admits}
use Rattle.definition.specs.declared.Fault.{Fault}
use Rattle.definition.specs.Fault.{Outcome, ok, refused}
use Rattle.definition.specs.Build.{Built, build}
use Rattle.arguments.specs.asking.Asks.{box_rules}
use Rattle.printing.specs.parts.Labelled.{refusal}
use Rattle.printing.specs.OfForm.{OfForm}

-- the text of what was built of a mesh in a given box
abbrev pub Text : Type 0
Text = Mesh → Given → Built → List ℕ

-- the number that the rules up to 10 give; where they admit the mesh, the outcome's, or the text of what was built
pub data Shows (Rules : ℕ → Type 0) (text : Built → List ℕ) : Outcome Fault Built → List ℕ → Type 0 where
  early : {o : Outcome Fault Built} {r : ℕ} → Rules r → r ≢ 0 → Shows Rules text o (refusal r)
  late : {f : Fault} → Rules 0 → Shows Rules text (refused f) (refusal f.number)
  built : {b : Built} → Rules 0 → Shows Rules text (ok b) (text b)

-- the text of an answer with the number r
abbrev pub shown : List ℕ → ℕ → List ℕ
shown text r = pick (eqb r 0) (λ _. text) (λ _. refusal r)

-- the first r bytes of a slice of this length are the text
pub record ShownIn (text out : List ℕ) (space r : ℕ) : Type 0 where
  pub first : take r out ≡ text
  pub within : r ≤ space

abbrev pub OfMesh : Text → Mesh → Given → List ℕ → Type 0
OfMesh t m g = Shows (Admits m true (box_rules g.sound)) (t m g) (build m g.bounds)

abbrev pub Prints : Text → List ℕ → List ℕ → Type 0
Prints t = OfForm (OfMesh t) refusal
