-- `plane::sides::is_inside`: the four comparisons are the definition's.
use Rattle.plane.specs.sides.Sides.{inside_of}
use Rattle.plane.proofs.sides.is_inside.Statement.{statement}
use Rattle.plane.proofs.sides.is_inside.Tie as tie

pub is_inside_spec : {M : Type 1} → statement M
unfolding inside_of
is_inside_spec = tie.close (tie.spec (λ c. cc))
