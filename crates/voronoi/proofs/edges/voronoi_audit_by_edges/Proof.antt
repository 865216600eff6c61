-- The box by its edges, and the call in it.
use Rattle.plane.specs.given.Finite.{edges_fit}
use Rattle.voronoi.specs.laws.InGiven.{audit_in}
use Rattle.voronoi.proofs.edges.voronoi_audit_by_edges.Statement.{statement}
use Rattle.voronoi.proofs.edges.voronoi_audit_by_edges.Tie as tie

audit-requires : tie.Need-audit-t-requires
audit-requires c κs = rw c.by_edges-given.ensures (edges_fit _ _ _ _)

returns : tie.Need-returns
returns c = audit_in c.by_edges-given.ensures c.audit-t.ensures

pub voronoi_audit_by_edges_spec : {M : Type 1} → statement M
voronoi_audit_by_edges_spec = tie.close (tie.spec (λ c κs. tt) audit-requires returns)
