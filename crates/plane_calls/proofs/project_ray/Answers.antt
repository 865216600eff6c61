-- `plane_calls::project_ray` meets its contract: the refusal, or what is met as numbers.
use Rattle.std.proofs.lemmas.Result.{err_from_is_err_and}
use Rattle.plane_calls.specs.laws.Plane.{ray_meets, ray_refused}
use Rattle.plane_calls.proofs.project_ray.Goals as goal

pub returns-in_err-meet_ray : goal.returns-in_err-meet_ray
returns-in_err-meet_ray c =
    let p = err_from_is_err_and c.from_residual.result c.from_residual.ensures.1 in
    rw (p.1, p.2) (ray_refused c.args.given c.args.p c.args.d c.in_err-meet_ray.ensures)

pub returns : goal.returns
returns c = ray_meets c.args.given c.args.p c.args.d c.in_ok-meet_ray.ensures c.into.ensures
