-- `plane::rays::order_one`: the signs of the point's own coordinates are compared, as in the definition.
use Rattle.plane.specs.rays.laws.Calls.{one_calls}
use Rattle.plane.proofs.rays.order_one.Statement.{statement}
use Rattle.plane.proofs.rays.order_one.Tie as tie

returns : tie.Need-returns
returns c =
    let s = c.before.before in
    one_calls _ _ _ s.before.before.signum.ensures s.before.signum-2.ensures s.signum-3.ensures c.before.signum-4.ensures c.one_if.ensures

pub order_one_spec : {M : Type 1} → statement M
order_one_spec = tie.close (tie.spec (λ c κs. tt) (λ c κs. tt) (λ c κs. tt) (λ c κs. tt) (λ c κs. tt) returns)
