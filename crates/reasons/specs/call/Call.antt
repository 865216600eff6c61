-- The call for a reason: the number, the kind and the places are those that tell the reason, and the five slices are as a build leaves them. Definitions only.
use Rattle.std.specs.Prelude.{◌≡◌, ℕ, eqb}
use Rattle.base.specs.common.Pick.{pick}
use Rattle.plane.specs.declared.given.Given.{Given}
use Rattle.mesh.specs.Accepted.{Mesh}
use Rattle.admission.specs.Slices.{Slices}
use Rattle.reasons.specs.declared.Question.{Question}
use Rattle.reasons.specs.declared.Question.TheVariants.{Nothing, About, Between}
use Rattle.reasons.specs.declared.Reason.{Reason}
use Rattle.reasons.specs.declared.ReasonNumbers.{ReasonNumbers}
use Rattle.reasons.specs.Reason.{told_by}
use Rattle.reasons.specs.explaining.Promise.{Explained}

-- asked: 0 for nothing, 1 for the first site, more for both
unfoldable pub question_of : ℕ → ℕ → ℕ → Question
question_of asked first second = pick (eqb asked 0) (λ _. Nothing) (λ _. pick (eqb asked 1) (λ _. About first) (λ _. Between first second))

pub record WhyCall (m : Mesh) (g : Given) (q : Question) (old new : Slices) (t : ReasonNumbers) : Type 0 where
  pub reason : Reason
  pub why : Explained m g q old new reason
  pub told : t ≡ told_by reason
