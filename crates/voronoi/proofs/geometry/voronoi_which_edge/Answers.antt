-- `voronoi::geometry::voronoi_which_edge` meets its contract: the box that is made, and the call in it.
use Rattle.voronoi.specs.laws.InGiven.{side_in}
use Rattle.voronoi.proofs.geometry.voronoi_which_edge.Goals as goal

pub returns : goal.returns
returns c = rw (c.number.ensures, c.unwrap_or.ensures) (side_in c.by_size-given.ensures _ c.which_edge-answer.ensures)
