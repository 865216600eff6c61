-- Theorem: when a build answers 0. On an accepted mesh with room, in a box that rule 3 admits, exactly where the definition refuses nothing; and demand 3 then.
use Rattle.std.specs.Prelude.{◌≡◌, refl, List, ℕ}
use Rattle.std.proofs.Common.{sym, ap, ◌∙◌, ⊎_elim, arith}
use Rattle.base.specs.common.Refusals.{Rule}
use Rattle.plane.specs.declared.boxes.BoundingBox.{BoundingBox}
use Rattle.plane.specs.given.Finite.{Fits}
use Rattle.plane.specs.declared.given.Given.{Given}
use Rattle.mesh.specs.Accepted.{Mesh}
use Rattle.admission.specs.Admits.{Admitted}
use Rattle.admission.specs.Slices.{Slices, room_of}
use Rattle.arguments.specs.asking.laws.Asks.{NoneZero, box_answers}
use Rattle.admission.specs.laws.Admits.{admitted, admits}
use Rattle.definition.specs.declared.Fault.{Fault}
use Rattle.definition.specs.Fault.{Outcome, ok, refused}
use Rattle.definition.specs.Build.{Built, build}
use Rattle.definition.specs.Measures.{Room}
use Rattle.build_laws.specs.Theorems.{wrapping, room}
use Rattle.build_laws.specs.Wrapping.{Wrapping}
use Rattle.cell_memory.specs.outputs.Outputs.{fault_of}
use Rattle.building.specs.answers.Promise.{BuildAnswers, Build}
use Rattle.building.specs.answers.laws.Promise.{built, builds_one, builds_cases}
use Rattle.build_laws.specs.Late.{Refuses, Numbered}
use Rattle.build_laws.specs.LateRefusals.{build_late}

-- ---- 0

-- the definition refuses nothing
pub record Value (o : Outcome Fault Built) : Type 0 where
  pub value : Built
  pub is : o ≡ ok value

value_of : (o : Outcome Fault Built) → Refuses Numbered o → (fault_of o).number ≡ 0 → Value o
value_of (ok b) late z = record { value = b; is = refl }
value_of (refused f) late z = absurd (omega (arith, late.least))

pub record Succeeds (m : Mesh) (own : List (Rule ℕ)) (o : Outcome Fault Built) (old : Slices) : Type 0 where
  pub admission : Admitted m (room_of m old) own
  pub outcome : Value o

module _ {m : Mesh} {own : List (Rule ℕ)} (t : NoneZero own) {o : Outcome Fault Built} {old new : Slices} {r : ℕ} where
  pub zero_succeeds : Refuses Numbered o → BuildAnswers m own o old new r → r ≡ 0 → Succeeds m own o old
  zero_succeeds late a z =
      ⊎_elim
      (λ x. absurd (x.1 z))
      (λ x. record { admission = admitted t x.0 refl; outcome = value_of o late (sym x.1 ∙ z) })
      (builds_cases t a.number)

  pub succeeds_zero : Succeeds m own o old → BuildAnswers m own o old new r → r ≡ 0
  succeeds_zero s a = builds_one a.number (built t (admits s.admission)) ∙ ap (λ p. (fault_of p).number) s.outcome.is

-- ---- demand 3 on an accepted clipped build
-- each corner is wrapped at most once, by its owner; and what is built fits its room
pub record SoundBuild (m : Mesh) (b : BoundingBox) : Type 0 where
  pub outcome : Value (build m b)
  pub wraps : Wrapping m b outcome.value
  pub fits : Room m.triangles m.hull b outcome.value

pub build_sound : {m : Mesh} (g : Given) → Fits g → {old new : Slices} {r : ℕ} → Build m g old new r → r ≡ 0 → SoundBuild m g.bounds
build_sound {m} g fits a z =
    let s = zero_succeeds (box_answers g.sound) (build_late m g.bounds) a z in
    let box = fits.bounded s.admission.fit.0 in
    record { outcome = s.outcome; wraps = wrapping s.admission.accepted box s.outcome.is; fits = room s.admission.accepted box s.outcome.is }
