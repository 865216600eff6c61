-- Refused by the rules up to 9, or rule 10 answers.
use Rattle.std.proofs.Common.{refl}
use Rattle.std.proofs.lemmas.Bool.{false≢true}
use Rattle.base.specs.refusal.laws.Number.{some_number, handed_on}
use Rattle.admission.specs.laws.Outlined.{fans_tryable}
use Rattle.admission.specs.laws.Fans.{outline_refused, fans_after}
use Rattle.admission.proofs.admit_build.Goals as goal

pub returns-in_err-admit_outline : goal.returns-in_err-admit_outline
returns-in_err-admit_outline c = rw (handed_on c.from_residual.result _ c.from_residual.ensures.1) (outline_refused c.in_err-admit_outline.ensures (some_number _))

pub admit_fans-requires : goal.admit_fans-requires
admit_fans-requires c = (fans_tryable c.in_ok-admit_outline.ensures refl, λ w. absurd (false≢true w))

pub returns : goal.returns
returns c = fans_after c.in_ok-admit_outline.ensures refl c.admit_fans.ensures
