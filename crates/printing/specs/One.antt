-- Theorem: no two answers may be given for one input, whatever is answered for a mesh in a box, where that is one; so no two texts of a build may be printed.
use Rattle.std.specs.Prelude.{◌≡◌, refl, false, List, ℕ}
use Rattle.std.proofs.Common.{ap, subst}
use Rattle.plane.specs.declared.given.Given.{Given}
use Rattle.mesh.specs.Accepted.{Mesh}
use Rattle.admission.specs.laws.Admits.{admits_one}
use Rattle.definition.specs.declared.Fault.{Fault}
use Rattle.definition.specs.Fault.{Outcome}
use Rattle.definition.specs.Build.{Built}
use Rattle.form.specs.Form.{FormMesh, MeshFits, IsForm, form_of}
use Rattle.form.specs.laws.Longer.{same_number, place_refuses}
use Rattle.form.specs.mesh.Read.{BoxOf}
use Rattle.form.specs.mesh.One.{SameMesh, same_mesh, box_begins}
use Rattle.printing.specs.parts.Labelled.{refusal}
use Rattle.printing.specs.OfForm.{mesh_of, OfForm, sound, broken}
use Rattle.printing.specs.Printed.{Shows, early, late, built, OfMesh, Prints, Text}

is_form : {s : List ℕ} (m : FormMesh) (g : Given) → MeshFits m → s ≡ form_of m → BoxOf m.clip g → IsForm false s
is_form m g f e b = record { mesh = m; fits = f; admits = box_begins m.clip g b; bytes = e }

lists_one : (m n : FormMesh) → SameMesh m n → mesh_of m ≡ mesh_of n
lists_one m n s = rw (s.sites, s.triangles, s.halfedges, s.hull)

module _ {A : Type 0} {Told : Mesh → Given → A → Type 0} {refused : ℕ → A} (one : (m : Mesh) (g : Given) (a b : A) → Told m g a → Told m g b → a ≡ b) where
  pub of_form_one : {s : List ℕ} {a b : A} → OfForm Told refused s a → OfForm Told refused s b → a ≡ b
  of_form_one {a = a} {b = b} (sound m g f e p x) (sound n h k d q y) =
      let z = same_mesh false m n f k (box_begins m.clip g p) (box_begins n.clip h q) e d in
      one (mesh_of n) h a b (subst (λ (i : Given). Told (mesh_of n) i a) (z.given g h p q) (subst (λ (i : Mesh). Told i g a) (lists_one m n z) x)) y
  of_form_one (sound m g f e p x) (broken q n) = absurd (place_refuses q (is_form m g f e p))
  of_form_one (broken q n) (sound m g f e p x) = absurd (place_refuses q (is_form m g f e p))
  of_form_one (broken p a) (broken q b) = ap refused (same_number p a q b)

module _ {Rules : ℕ → Type 0} {text : Built → List ℕ} (one : (a b : ℕ) → Rules a → Rules b → a ≡ b) where
  shows_one : {o : Outcome Fault Built} {a b : List ℕ} → Shows Rules text o a → Shows Rules text o b → a ≡ b
  shows_one (early p q) (early r s) = ap refusal (one _ _ p r)
  shows_one (early p q) (late r) = absurd (q (one _ _ p r))
  shows_one (early p q) (built r) = absurd (q (one _ _ p r))
  shows_one (late p) (early r s) = absurd (s (one _ _ r p))
  shows_one (late p) (late r) = refl
  shows_one (built p) (early r s) = absurd (s (one _ _ r p))
  shows_one (built p) (built r) = refl

pub prints_one : (t : Text) {s a b : List ℕ} → Prints t s a → Prints t s b → a ≡ b
prints_one t = of_form_one {Told = OfMesh t} (λ m g a b x y. shows_one (λ c d. admits_one) x y)
