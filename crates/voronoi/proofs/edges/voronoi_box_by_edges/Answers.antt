-- `voronoi::edges::voronoi_box_by_edges` meets its contract: the box that is made, and the call in it.
use Rattle.voronoi.specs.laws.InGiven.{centered_in}
use Rattle.voronoi.proofs.edges.voronoi_box_by_edges.Goals as goal

pub returns : goal.returns
returns c = rw (c.number.ensures, c.unwrap_or-center.ensures) (centered_in c.by_edges-given.ensures c.box_center-answer.ensures)
