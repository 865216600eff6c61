-- `plane::centers::center_ok`: both magnitudes are tested as rule 11 says.
use Rattle.plane.specs.centers.Circumcenter.{ok_center}
use Rattle.plane.proofs.centers.center_ok.Statement.{statement}
use Rattle.plane.proofs.centers.center_ok.Tie as tie

pub center_ok_spec : {M : Type 1} → statement M
unfolding ok_center
center_ok_spec = tie.close (tie.spec (λ c κs. tt) (λ c κs. tt) (λ c. cc))
