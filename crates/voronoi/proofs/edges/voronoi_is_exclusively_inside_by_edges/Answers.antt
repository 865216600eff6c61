-- `voronoi::edges::voronoi_is_exclusively_inside_by_edges` meets its contract: the box that is made, and the call in it.
use Rattle.voronoi.specs.laws.InGiven.{exclusively_in}
use Rattle.voronoi.proofs.edges.voronoi_is_exclusively_inside_by_edges.Goals as goal

pub returns : goal.returns
returns c = rw (c.number.ensures, c.yes.ensures, c.unwrap_or.ensures) (exclusively_in c.by_edges-given.ensures _ c.is_exclusively_inside-answer.ensures)
