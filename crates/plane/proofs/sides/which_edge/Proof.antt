-- `plane::sides::which_edge`: the four tolerance tests, handed on in the definition's order.
use Rattle.plane.specs.sides.Sides.{which_of}
use Rattle.plane.proofs.sides.which_edge.Statement.{statement}
use Rattle.plane.proofs.sides.which_edge.Tie as tie

pub which_edge_spec : {M : Type 1} → statement M
unfolding which_of
which_edge_spec = tie.close (tie.spec (λ c κs. tt) (λ c κs. tt) (λ c κs. tt) (λ c κs. tt) (λ c κs. tt) (λ c. cc))
