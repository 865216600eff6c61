-- `plane::rays::order_points_on_ray`: each arm is the definition at its variant.
use borrow.Author.Rules.{rules}
use Rattle.plane.specs.rays.laws.Calls.{order_one_lem, order_two_lem}
use Rattle.plane.proofs.rays.order_points_on_ray.Statement.{statement}
use Rattle.plane.proofs.rays.order_points_on_ray.Tie as tie

one : tie.Need-returns-in-One
one c = order_one_lem _ _ _ _ c.in-One.is c.order_one.ensures

two : tie.Need-returns-in-Two
two c = order_two_lem _ _ _ _ _ _ c.in-Two.is c.order_two.ensures

pub order_points_on_ray_spec : {M : Type 1} → statement M
order_points_on_ray_spec = tie.close (tie.spec (λ c. search rules) (λ c. search rules) (λ c κs. tt) (λ c. search rules) (λ c κs. tt) (λ c. search rules) one two)
