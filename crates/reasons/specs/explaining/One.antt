-- Theorem: the reason is one: any two results that the promise allows are equal, the slices too.
use Rattle.std.specs.Prelude.{◌≡◌, List, ℕ}
use Rattle.std.proofs.Common.{sym, ◌∙◌, subst}
use Rattle.base.specs.common.Refusals.{Rule}
use Rattle.base.specs.common.laws.Refusals.{finds_one}
use Rattle.mesh.specs.Accepted.{Mesh, table_of}
use Rattle.definition.specs.declared.Fault.{Fault}
use Rattle.definition.specs.Fault.{Outcome}
use Rattle.definition.specs.Build.{Built}
use Rattle.admission.specs.Slices.{Slices}
use Rattle.building.specs.answers.Promise.{BuildAnswer}
use Rattle.building.specs.answers.laws.Promise.{answer_one}
use Rattle.reasons.specs.declared.Question.{Question}
use Rattle.reasons.specs.declared.Reason.{Reason}
use Rattle.reasons.specs.Reason.{told_by}
use Rattle.reasons.specs.explaining.Promise.{WhyAnswer}

pub one_why : {m : Mesh} {own : List (Rule ℕ)} {q : Question} {o : Outcome Fault Built} {old new other : Slices} {r s : Reason}
    → WhyAnswer m own q o old new r → WhyAnswer m own q o old other s → (r ≡ s) × (new ≡ other)
one_why {m} {o = o} {old = old} {other = other} {r = r} {s = s} a b =
    let e : r ≡ s = finds_one a.reason b.reason in
    let c = subst (λ (x : Reason). BuildAnswer (λ n. n ≡ (told_by x).number) (table_of m) o old other (told_by x).number) (sym e) b.slices in
    (e, (answer_one (λ x y p q. p ∙ sym q) a.slices c).1)
