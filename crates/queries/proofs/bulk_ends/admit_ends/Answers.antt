-- Up to 6 the output is left alone, from 7 on it is cleared.
use Rattle.std.proofs.Common.{◌≤◌, ◌<◌, sym, ◌∙◌, rules}
use Rattle.base.specs.numbers.Numbers.{refused_triangle}
use Rattle.base.specs.refusal.Number.{answer_number}
use Rattle.admission.specs.laws.Admits.{admits_few}
use Rattle.queries.specs.bulk_ends.laws.Answers.{room_table, odd_points, ends_left, ends_cleared}
use Rattle.queries.proofs.bulk_ends.admit_ends.Goals as goal

pub returns-then-points-ne0 : goal.returns-then-points-ne0
returns-then-points-ne0 c = odd_points _ _ _ _ _ c.if-points-ne0.true

pub admit-answer-requires : goal.admit-answer-requires
admit-answer-requires c = ((λ q. room_table _ _ _ _ (sym c.room-roomy.ensures ∙ q)), c.ask_points-asked.ensures.small)

pub returns-then-is_err_and : goal.returns-then-is_err_and
returns-then-is_err_and c =
    let l : refused_triangle ≤ answer_number c.admit-answer.result = search rules in
    ends_cleared _ _ _ _ c.if-points-ne0.false c.ask_points-asked.ensures c.room-roomy.result c.room-roomy.ensures c.admit-answer.ensures l c.clear.ensures

pub returns-else-is_err_and : goal.returns-else-is_err_and
returns-else-is_err_and c =
    let few = admits_few c.ask_points-asked.ensures.small c.admit-answer.ensures.number in
    let l : answer_number c.admit-answer.result < refused_triangle = search rules in
    ends_left _ _ _ _ c.if-points-ne0.false c.ask_points-asked.ensures c.room-roomy.result c.room-roomy.ensures c.admit-answer.ensures l
