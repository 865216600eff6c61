-- `plane::points::site_ok`: both coordinates are tested.
use Rattle.plane.specs.points.Rules.{ok_site}
use Rattle.plane.proofs.points.site_ok.Statement.{statement}
use Rattle.plane.proofs.points.site_ok.Tie as tie

pub site_ok_spec : {M : Type 1} → statement M
unfolding ok_site
site_ok_spec = tie.close (tie.spec (λ c κs. tt) (λ c κs. tt) (λ c. cc))
