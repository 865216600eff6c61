-- The box by its edges, and the call in it.
use borrow.Author.Rules.{rules}
use Rattle.plane.specs.given.Finite.{edges_fit}
use Rattle.voronoi.specs.laws.InGiven.{certify_in}
use Rattle.voronoi.proofs.certificates.voronoi_certify_by_edges.Statement.{statement}
use Rattle.voronoi.proofs.certificates.voronoi_certify_by_edges.Tie as tie

certify-requires : tie.Need-certify-t-requires
certify-requires c κs = rw c.by_edges-given.ensures (edges_fit _ _ _ _)

returns : tie.Need-returns
returns c = certify_in c.by_edges-given.ensures c.certify-t.ensures

pub voronoi_certify_by_edges_spec : {M : Type 1} → statement M
voronoi_certify_by_edges_spec = tie.close (tie.spec (λ c κs. tt) certify-requires (λ c. search rules) returns)
