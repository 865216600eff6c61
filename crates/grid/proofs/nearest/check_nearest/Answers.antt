-- The hull is judged where the check on the grid says yes.
use Rattle.std.proofs.lemmas.Result.{err_from_is_err_and}
use Rattle.grid.specs.nearest.laws.Outcome.{handed, said_yes, ready, by_hull}
use Rattle.grid.proofs.nearest.check_nearest.Goals as goal

pub returns-in_err-of_grid : goal.returns-in_err-of_grid
returns-in_err-of_grid c =
    let p = err_from_is_err_and c.from_residual.result c.from_residual.ensures.1 in
    rw (p.1, p.2) (handed _ _ _ _ _ c.check_grid.ensures c.in_err-of_grid.ensures)

pub judge-requires : goal.judge-requires
judge-requires c = ready _ _ _ (said_yes _ _ _ _ c.check_grid.ensures c.in_ok-of_grid.ensures)

pub returns : goal.returns
returns c = rw c.of_hull.ensures (by_hull _ _ _ (said_yes _ _ _ _ c.check_grid.ensures c.in_ok-of_grid.ensures) _ c.judge.ensures)
