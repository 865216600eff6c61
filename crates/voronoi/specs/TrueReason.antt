-- Theorem: the reason that voronoi_why and voronoi_why_by_edges tell is the true one: what it names has the fault, nothing that stands earlier in the order of the rules has
-- one, and where nothing is wrong no fault is told. What each reason says is `Truth` of crate reason_truth, one type with a case for each rule.
use Rattle.std.specs.Prelude.{◌≡◌, true, List, ◌++◌, ℕ}
use Rattle.std.proofs.Common.{ap, ◌∙◌}
use Rattle.base.specs.common.Refusals.{Rule, Keep}
use Rattle.plane.specs.declared.given.Given.{Given}
use Rattle.mesh.specs.Accepted.{Mesh, Accepted, site_count}
use Rattle.definition.specs.Fault.{ok}
use Rattle.definition.specs.Build.{Built, build}
use Rattle.arguments.specs.asking.Asks.{box_rules}
use Rattle.admission.specs.Slices.{Slices, room_of}
use Rattle.reasons.specs.declared.Question.{Question}
use Rattle.reasons.specs.declared.Reason.{Reason}
use Rattle.reasons.specs.declared.Reason.TheVariants.{NoFault}
use Rattle.reasons.specs.declared.ReasonNumbers.{ReasonNumbers}
use Rattle.reasons.specs.Reason.{told_by}
use Rattle.reasons.specs.Rules.{question_rules}
use Rattle.reason_truth.specs.Truth.{Truth, Faultless, whole_truth, no_fault}
use Rattle.reasons.specs.call.Call.{question_of}
use Rattle.voronoi.specs.Explanations.{Why}

-- what the call asks of its own arguments: 3 on the box, 4 on each site asked about
abbrev pub why_rules : Mesh → Given → Question → List (Rule ℕ)
why_rules m g q = box_rules g.sound ++ question_rules (site_count m.sites) q

-- of the numbers t that were told, with the slices `old` lent
pub record TrueReason (m : Mesh) (g : Given) (q : Question) (old : Slices) (t : ReasonNumbers) : Type 0 where
  pub reason : Reason
  pub told : t ≡ told_by reason
  pub truth : Truth m (room_of m old ≡ true) (why_rules m g q) q g.bounds reason
  pub none : Accepted m → room_of m old ≡ true → Keep (why_rules m g q) → {k : Built} → build m g.bounds ≡ ok k → Faultless m k q → t ≡ told_by NoFault

pub true_reason : (m : Mesh) (g : Given) (asked first second : ℕ) {old new : Slices} {t : ReasonNumbers} → Why m g asked first second old new t
    → TrueReason m g (question_of asked first second) old t
true_reason m g asked first second {old} a =
    let q = question_of asked first second in
    let x = a.why.reason in
    record {
      reason = a.reason;
      told = a.told;
      truth = whole_truth m (room_of m old ≡ true) (why_rules m g q) q g.bounds x;
      none = λ s room fit is f. a.told ∙ ap told_by (no_fault m (room_of m old ≡ true) (why_rules m g q) q g.bounds s room fit is f x);
    }
