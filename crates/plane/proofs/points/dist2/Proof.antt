-- `plane::points::dist2`: the operations are the definition's, one by one.
use Rattle.plane.specs.points.Plane.{dist2_of}
use Rattle.plane.proofs.points.dist2.Statement.{statement}
use Rattle.plane.proofs.points.dist2.Tie as tie

pub dist2_spec : {M : Type 1} → statement M
unfolding dist2_of
dist2_spec = tie.close (tie.spec (λ c. cc))
