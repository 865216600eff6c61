-- `plane_calls::is_inside` meets its contract: the refusal by the box or the point.
use Rattle.std.proofs.lemmas.Result.{err_from_is_err_and}
use Rattle.plane_calls.specs.laws.Plane.{inside_refused}
use Rattle.plane_calls.proofs.is_inside.Goals as goal

pub returns-in_err-tried : goal.returns-in_err-tried
returns-in_err-tried c =
    let p = err_from_is_err_and c.from_residual.result c.from_residual.ensures.1 in
    rw (p.1, p.2) (inside_refused c.args.given c.args.p c.site_ok.ensures c.in_err-tried.ensures)
