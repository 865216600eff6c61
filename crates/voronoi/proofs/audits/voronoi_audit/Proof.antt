-- The box by its center and size, and the call in it.
use Rattle.plane.specs.given.Finite.{size_fits}
use Rattle.voronoi.specs.laws.InGiven.{audit_in}
use Rattle.voronoi.proofs.audits.voronoi_audit.Statement.{statement}
use Rattle.voronoi.proofs.audits.voronoi_audit.Tie as tie

audit-requires : tie.Need-audit-t-requires
audit-requires c κs = rw c.by_size-given.ensures (size_fits _ _ _)

returns : tie.Need-returns
returns c = audit_in c.by_size-given.ensures c.audit-t.ensures

pub voronoi_audit_spec : {M : Type 1} → statement M
voronoi_audit_spec = tie.close (tie.spec (λ c κs. tt) audit-requires returns)
