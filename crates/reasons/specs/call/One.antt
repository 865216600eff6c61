-- Theorem: of the call for a reason no two outcomes are allowed for one input.
use Rattle.std.specs.Prelude.{◌≡◌}
use Rattle.std.proofs.Common.{sym, ap, ◌∙◌}
use Rattle.plane.specs.declared.given.Given.{Given}
use Rattle.mesh.specs.Accepted.{Mesh}
use Rattle.admission.specs.Slices.{Slices}
use Rattle.reasons.specs.declared.Question.{Question}
use Rattle.reasons.specs.declared.ReasonNumbers.{ReasonNumbers}
use Rattle.reasons.specs.Reason.{told_by}
use Rattle.reasons.specs.explaining.One as explaining
use Rattle.reasons.specs.call.Call.{WhyCall}

pub one_why_call : {m : Mesh} {g : Given} {q : Question} {old new other : Slices} {t u : ReasonNumbers}
    → WhyCall m g q old new t → WhyCall m g q old other u → (t ≡ u) × (new ≡ other)
one_why_call a b = let e = explaining.one_why a.why b.why in (a.told ∙ ap told_by e.0 ∙ sym b.told, e.1)
