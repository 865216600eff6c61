-- An early refusal leaves the work slice alone; else the verdict on rules 7 to 9 is the answer.
use Rattle.std.proofs.Common.{refl}
use Rattle.base.specs.refusal.laws.Number.{some_number, handed_on}
use Rattle.admission.specs.laws.Early.{outline_early, outline_late, fault_number}
use Rattle.admission.proofs.outline.Goals as goal

pub returns-in_err-early : goal.returns-in_err-early
returns-in_err-early c = rw (handed_on c.from_residual.result _ c.from_residual.ensures.1) (outline_early _ _ _ c.in_err-early.ensures c.requires.1 (some_number _))

pub returns-in_err-check_outline : goal.returns-in_err-check_outline
returns-in_err-check_outline c =
    rw (handed_on c.from_residual-in_err-check_outline.result _ c.from_residual-in_err-check_outline.ensures.1)
    (outline_late _ _ _ c.in_ok-early.ensures refl c.in_err-check_outline.ensures (fault_number _))

pub returns : goal.returns
returns c = outline_late _ _ _ c.in_ok-early.ensures refl c.in_ok-check_outline.ensures refl
