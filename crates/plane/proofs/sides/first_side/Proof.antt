-- `plane::sides::first_side`: each answer by the tests that lead to it.
use Rattle.plane.specs.sides.Sides.{first_side}
use Rattle.plane.proofs.sides.first_side.Statement.{statement}
use Rattle.plane.proofs.sides.first_side.Tie as tie

pub first_side_spec : {M : Type 1} → statement M
unfolding first_side
first_side_spec = tie.close (tie.spec (λ c. cc) (λ c. cc) (λ c. cc) (λ c. cc) (λ c. cc))
