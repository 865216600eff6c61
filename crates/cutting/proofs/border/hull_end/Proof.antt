-- `cutting::border::hull_end`: the center and the direction of its half-edge.
use Rattle.cutting.proofs.border.hull_end.Statement.{statement}
use Rattle.cutting.proofs.border.hull_end.Tie as tie

returns : tie.Need-returns
returns c = rw (← c.site_at.ensures, ← c.toward.ensures) c.far_at.ensures

pub hull_end_spec : {M : Type 1} → statement M
hull_end_spec = tie.close (tie.spec (λ c κs. tt) (λ c κs. tt) (λ c κs. tt) returns)
