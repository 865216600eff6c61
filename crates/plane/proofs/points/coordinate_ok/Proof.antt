-- `plane::points::coordinate_ok`: the magnitude is tested as rule 6 says.
use Rattle.plane.specs.points.Rules.{ok_coord}
use Rattle.plane.proofs.points.coordinate_ok.Statement.{statement}
use Rattle.plane.proofs.points.coordinate_ok.Tie as tie

pub coordinate_ok_spec : {M : Type 1} → statement M
unfolding ok_coord
coordinate_ok_spec = tie.close (tie.spec (λ c κs. tt) (λ c. cc))
