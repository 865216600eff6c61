-- `voronoi::geometry::voronoi_box` meets its contract: the box that is made, and the call in it.
use Rattle.voronoi.specs.laws.InGiven.{edges_in}
use Rattle.voronoi.proofs.geometry.voronoi_box.Goals as goal

pub returns : goal.returns
returns c = rw (c.number.ensures, c.unwrap_or-edges.ensures) (edges_in c.by_size-given.ensures c.box_edges-answer.ensures)
