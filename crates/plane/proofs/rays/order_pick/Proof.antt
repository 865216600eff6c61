-- `plane::rays::order_pick`: each answer by the tests that lead to it.
use Rattle.plane.specs.rays.Ray.{order_pick}
use Rattle.plane.proofs.rays.order_pick.Statement.{statement}
use Rattle.plane.proofs.rays.order_pick.Tie as tie

pub order_pick_spec : {M : Type 1} → statement M
unfolding order_pick
order_pick_spec = tie.close (tie.spec (λ c. cc) (λ c. cc) (λ c. cc) (λ c. cc) (λ c. cc))
