-- The rules up to 10 with rule 2 of a cutting; from 7 on the outputs are cleared.
use Rattle.std.proofs.Common.{◌≤◌, ◌<◌, arith, rules}
use Rattle.base.specs.numbers.Numbers.{refused_triangle}
use Rattle.base.specs.refusal.Number.{answer_number}
use Rattle.admission.specs.laws.Admits.{admits_few}
use Rattle.cutting_calls.specs.cut_admission.laws.CutAdmission.{left_alone, all_cleared}
use Rattle.cutting_calls.proofs.cut_admission.admit_cut.Goals as goal

pub returns-then-is_err_and : goal.returns-then-is_err_and
returns-then-is_err_and c =
    let q = c.clear_all.ensures in
    let l : refused_triangle ≤ answer_number c.admit-answer.result = search rules in
    all_cleared _ _ _ _ _ _ _ _ _ c.room_for-roomy.ensures c.admit-answer.ensures l _ _ _ q.0 q.1 q.2

pub returns-else-is_err_and : goal.returns-else-is_err_and
returns-else-is_err_and c =
    let few = admits_few c.requires c.admit-answer.ensures.number in
    let l : answer_number c.admit-answer.result < refused_triangle = search rules in
    left_alone _ _ _ _ _ _ _ _ _ c.room_for-roomy.ensures c.admit-answer.ensures l
