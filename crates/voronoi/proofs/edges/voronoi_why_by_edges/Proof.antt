-- The box by its edges, and the call in it.
use borrow.Author.Rules.{rules}
use Rattle.plane.specs.given.Finite.{edges_fit}
use Rattle.voronoi.specs.laws.InGiven.{why_in}
use Rattle.voronoi.proofs.edges.voronoi_why_by_edges.Statement.{statement}
use Rattle.voronoi.proofs.edges.voronoi_why_by_edges.Tie as tie

abbrev By-edges : tie.After-why_call-arg-9-1 → tie.After-by_edges-given
By-edges c = c.before.before.before.before.before.before.before.before.before

abbrev Why-call : tie.After-slice_known-10-1 → tie.After-why_call
Why-call c = c.before.before.before.before.before.before.before.before.before.before

why_call-requires : tie.Need-why_call-requires
why_call-requires c κs = rw (By-edges c).by_edges-given.ensures (edges_fit _ _ _ _)

returns : tie.Need-returns
returns c = why_in (By-edges (Why-call c).before).by_edges-given.ensures (Why-call c).why_call.ensures

pub voronoi_why_by_edges_spec : {M : Type 1} → statement M
voronoi_why_by_edges_spec =
    tie.close
    (tie.spec (λ c κs. tt) why_call-requires (λ c. search rules) (λ c. search rules) (λ c. search rules)
    (λ c. search rules) (λ c. search rules) returns)
