-- `voronoi::edges::voronoi_which_edge_by_edges` meets its contract: the box that is made, and the call in it.
use Rattle.voronoi.specs.laws.InGiven.{side_in}
use Rattle.voronoi.proofs.edges.voronoi_which_edge_by_edges.Goals as goal

pub returns : goal.returns
returns c = rw (c.number.ensures, c.unwrap_or.ensures) (side_in c.by_edges-given.ensures _ c.which_edge-answer.ensures)
