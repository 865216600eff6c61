-- `plane::sides::is_exclusively_inside`: the two tests are those of the definition.
use Rattle.plane.specs.sides.Sides.{exclusive_of}
use Rattle.plane.proofs.sides.is_exclusively_inside.Statement.{statement}
use Rattle.plane.proofs.sides.is_exclusively_inside.Tie as tie

pub is_exclusively_inside_spec : {M : Type 1} → statement M
unfolding exclusive_of
is_exclusively_inside_spec = tie.close (tie.spec (λ c κs. tt) (λ c κs. tt) (λ c. cc))
