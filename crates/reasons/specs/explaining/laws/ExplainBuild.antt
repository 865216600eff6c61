-- A build's own steps give what it met, as a reason.
use Rattle.std.specs.Prelude.{◌≡◌, true, List, ℕ, Float}
use Rattle.std.proofs.Common.{sym, ap, ◌∙◌, subst}
use Rattle.plane.specs.given.Finite.{Fits}
use Rattle.plane.specs.declared.given.Given.{Given}
use Rattle.mesh.specs.Accepted.{Mesh}
use Rattle.definition.specs.declared.Fault.{Fault}
use Rattle.definition.specs.Fault.{Outcome}
use Rattle.definition.specs.Build.{Built, build}
use Rattle.cell_memory.specs.outputs.Outputs.{fault_of, BuiltInto}
use Rattle.cell_builder.specs.declared.finish.CellsAnswer.{CellsAnswer}
use Rattle.cell_builder.specs.finish.Finish.{outcome_answer}
use Rattle.building.specs.counts.Counts.{counts_of, EndedBuild}
use Rattle.admission.specs.Admits.{asked_rules}
use Rattle.admission.specs.laws.Admits.{asked_answers, finds_asked}
use Rattle.admission.specs.Slices.{Slices, slices}
use Rattle.admission.specs.Admission.{BuildAdmission}
use Rattle.building.specs.answers.Promise.{BuildAnswers}
use Rattle.building.specs.answers.laws.Build.{boxed_fault, boxed_built}
use Rattle.reasons.specs.declared.Reason.{Reason}
use Rattle.reasons.specs.Reason.{of_fault}
use Rattle.reasons.specs.explaining.Steps.{Explains, built}

explains : {m : Mesh} {asked : ℕ} {o : Outcome Fault Built} {old mid new : Slices} {n : ℕ} {r : Reason} {f : Fault}
    → BuildAdmission m asked old mid n → n ≡ 0 → f ≡ fault_of o → BuildAnswers m (asked_rules asked) o old new f.number → r ≡ of_fault f
    → Explains m asked o old new r
explains {m} {asked} {o} {old} {new = new} a z q b e =
    subst (Explains m asked o old new) (sym (e ∙ ap of_fault q)) (built a z (rw q at b))

module _ {m : Mesh} {asked : ℕ} {old mid : Slices} {n : ℕ} (a : BuildAdmission m asked old mid n) (z : n ≡ 0)
    {v : List Float} {ix off w₂ c₂ : List ℕ} {r : Reason} where
  pub explains_build : (g : Given) → Fits g → (asked ≡ 0 → g.sound ≡ true) → (x : CellsAnswer)
      → x ≡ outcome_answer (build m g.bounds) → BuiltInto (build m g.bounds) mid.vertices mid.indexes mid.offsets v ix off
      → EndedBuild x.fault.number (counts_of x.count x.owners x.lost x.reused) mid.work mid.counts w₂ c₂ → r ≡ of_fault x.fault
      → Explains m asked (build m g.bounds) old (slices w₂ v ix off c₂) r
  explains_build g fits fit x q l f e = explains a z (boxed_fault a g fits fit z x q)
      (boxed_built a g fits fit z x q (asked_rules asked) (asked_answers asked) (finds_asked asked) l f) e
