-- `plane::rays::order_by`: the signs and magnitudes that it compares are the definition's.
use Rattle.plane.specs.rays.laws.Calls.{by_calls}
use Rattle.plane.proofs.rays.order_by.Statement.{statement}
use Rattle.plane.proofs.rays.order_by.Tie as tie

returns : tie.Need-returns
returns c =
    let m = c.before.before in
    let s = m.before.before in
    by_calls _ _ _ _ _ _ _ s.before.signum-s.ensures s.signum.ensures m.before.signum-2.ensures m.magnitude.ensures c.before.magnitude-2.ensures c.order_pick.ensures

pub order_by_spec : {M : Type 1} → statement M
order_by_spec = tie.close (tie.spec (λ c κs. tt) (λ c κs. tt) (λ c κs. tt) (λ c κs. tt) (λ c κs. tt) (λ c κs. tt) returns)
