-- Up to 6 the slices are left alone, from 7 on they are cleared.
use Rattle.std.proofs.Common.{◌≤◌, ◌<◌, arith, rules}
use Rattle.base.specs.numbers.Numbers.{refused_triangle}
use Rattle.base.specs.refusal.Number.{answer_number}
use Rattle.admission.specs.laws.Admits.{admits_few}
use Rattle.queries.specs.bulk_neighbours.laws.Answers.{lists_left, lists_cleared}
use Rattle.queries.proofs.bulk_neighbours.admit_lists.Goals as goal

pub returns-then-is_err_and : goal.returns-then-is_err_and
returns-then-is_err_and c =
    let l : refused_triangle ≤ answer_number c.admit-answer.result = search rules in
    lists_cleared _ _ c.room-roomy.result c.room-roomy.ensures c.admit-answer.ensures l c.clear.ensures c.clear-then-is_err_and.ensures

pub returns-else-is_err_and : goal.returns-else-is_err_and
returns-else-is_err_and c =
    let few = admits_few (omega arith) c.admit-answer.ensures.number in
    let l : answer_number c.admit-answer.result < refused_triangle = search rules in
    lists_left _ _ c.room-roomy.result c.room-roomy.ensures c.admit-answer.ensures l
