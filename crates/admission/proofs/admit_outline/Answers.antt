-- From 7 on every slice is cleared.
use Rattle.std.proofs.Common.{◌≤◌, rules}
use Rattle.base.specs.numbers.Numbers.{refused_triangle}
use Rattle.base.specs.refusal.Number.{answer_number}
use Rattle.admission.specs.laws.BuildAdmission.{all_cleared}
use Rattle.admission.proofs.admit_outline.Goals as goal

pub returns-then-is_err_and : goal.returns-then-is_err_and
returns-then-is_err_and c =
    let q = c.clear_all.ensures in
    let l : refused_triangle ≤ answer_number c.outline-outlined.result = search rules in
    all_cleared _ _ _ _ _ _ _ _ _ _ c.room_for-roomy.ensures c.outline-outlined.ensures.0 c.outline-outlined.ensures.1 l _ _ _ _ q.0 q.1 q.2 c.clear.ensures
