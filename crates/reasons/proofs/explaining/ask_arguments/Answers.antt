-- Rule 3, then the others.
use Rattle.std.proofs.Common.{refl}
use Rattle.base.specs.refusal.laws.Number.{some_number, handed_on}
use Rattle.reasons.specs.explaining.laws.Asked.{box_refused, box_passed}
use Rattle.reasons.proofs.explaining.ask_arguments.Goals as goal

pub returns-in_err-ask_box : goal.returns-in_err-ask_box
returns-in_err-ask_box c = rw (handed_on c.from_residual.result _ c.from_residual.ensures.1) (box_refused _ _ c.in_err-ask_box.ensures (some_number _))

pub returns : goal.returns
returns c = box_passed _ _ c.in_ok-ask_box.ensures refl c.ask_question.ensures
