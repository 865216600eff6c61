-- The call's promise from its steps: the question, the reason, its numbers, and what was written.
use Rattle.std.specs.Prelude.{◌≡◌}
use Rattle.std.proofs.Common.{subst, ◌∙◌}
use Rattle.plane.specs.declared.given.Given.{Given}
use Rattle.mesh.specs.Accepted.{Mesh}
use Rattle.admission.specs.Slices.{Slices}
use Rattle.reasons.specs.declared.Question.{Question}
use Rattle.reasons.specs.declared.Reason.{Reason}
use Rattle.reasons.specs.declared.ReasonNumbers.{ReasonNumbers}
use Rattle.reasons.specs.Reason.{told_by}
use Rattle.reasons.specs.explaining.Promise.{Explained}
use Rattle.reasons.specs.call.Call.{WhyCall}

pub called : {m : Mesh} {g : Given} {q asked : Question} {old new : Slices} {t u : ReasonNumbers} (r : Reason)
    → q ≡ asked → Explained m g q old new r → t ≡ u → u ≡ told_by r → WhyCall m g asked old new t
called {m} {g} {old = old} {new} r e a p q =
    record { reason = r; why = subst (λ (x : Question). Explained m g x old new r) e a; told = p ∙ q }
