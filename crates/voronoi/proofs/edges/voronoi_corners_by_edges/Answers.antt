-- `voronoi::edges::voronoi_corners_by_edges` meets its contract: the box that is made, and the call in it.
use Rattle.voronoi.specs.laws.InGiven.{corners_in}
use Rattle.voronoi.proofs.edges.voronoi_corners_by_edges.Goals as goal

pub returns : goal.returns
returns c = rw (c.number.ensures) (corners_in c.by_edges-given.ensures c.corners.ensures)
