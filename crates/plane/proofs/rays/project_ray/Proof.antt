-- `plane::rays::project_ray`: the line through the start and the rounded second point, then its order on the ray.
use Rattle.plane.specs.rays.laws.Calls.{ray_calls}
use Rattle.plane.proofs.rays.project_ray.Statement.{statement}
use Rattle.plane.proofs.rays.project_ray.Tie as tie

pub project_ray_spec : {M : Type 1} → statement M
project_ray_spec = tie.close (tie.spec (λ c κs. tt) (λ c κs. tt) (λ c. ray_calls _ _ _ c.before.intersect_line.ensures c.order_points_on_ray.ensures))
