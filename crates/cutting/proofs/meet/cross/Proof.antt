-- `cutting::meet::cross`: the two points are the sites.
use Rattle.cutting.proofs.meet.cross.Statement.{statement}
use Rattle.cutting.proofs.meet.cross.Tie as tie

returns : tie.Need-returns
returns c = rw (← c.site_at.ensures, ← c.site_at-2.ensures) c.cross_by.ensures

pub cross_spec : {M : Type 1} → statement M
cross_spec = tie.close (tie.spec (λ c κs. tt) (λ c κs. tt) (λ c κs. tt) returns)
