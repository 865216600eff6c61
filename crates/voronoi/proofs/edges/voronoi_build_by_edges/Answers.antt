-- The box by its edges, and the call in it.
use Rattle.plane.specs.given.Finite.{edges_fit}
use Rattle.voronoi.specs.laws.InGiven.{build_in}
use Rattle.voronoi.proofs.edges.voronoi_build_by_edges.Goals as goal

pub build-requires : goal.build-requires
build-requires c = rw c.by_edges-given.ensures (edges_fit _ _ _ _)

pub returns : goal.returns
returns c = rw c.number.ensures (build_in c.by_edges-given.ensures c.build.ensures)
