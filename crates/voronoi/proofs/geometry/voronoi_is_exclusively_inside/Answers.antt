-- `voronoi::geometry::voronoi_is_exclusively_inside` meets its contract: the box that is made, and the call in it.
use Rattle.voronoi.specs.laws.InGiven.{exclusively_in}
use Rattle.voronoi.proofs.geometry.voronoi_is_exclusively_inside.Goals as goal

pub returns : goal.returns
returns c = rw (c.number.ensures, c.yes.ensures, c.unwrap_or.ensures) (exclusively_in c.by_size-given.ensures _ c.is_exclusively_inside-answer.ensures)
