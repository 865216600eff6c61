-- `plane::rays::order_two`: the larger component of the direction decides, as in the definition.
use Rattle.plane.specs.rays.laws.Calls.{two_calls}
use Rattle.plane.proofs.rays.order_two.Statement.{statement}
use Rattle.plane.proofs.rays.order_two.Tie as tie

returns : tie.Need-returns
returns c =
    let b = c.before in
    let a = b.before.before.before in
    let s = a.before.before.before in
    let m = s.before in
    two_calls _ _ _ _ _ _ m.before.magnitude.ensures m.magnitude-2.ensures s.choose.ensures a.choose-2.ensures b.choose-3.ensures c.order_by.ensures

pub order_two_spec : {M : Type 1} → statement M
order_two_spec = tie.close (tie.spec (λ c κs. tt) (λ c κs. tt) (λ c κs. tt) (λ c κs. tt) (λ c κs. tt) (λ c κs. tt) returns)
