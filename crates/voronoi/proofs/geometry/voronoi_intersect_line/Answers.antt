-- `voronoi::geometry::voronoi_intersect_line` meets its contract: the box that is made, and the call in it.
use Rattle.plane.specs.lines.Line.{line_of}
use Rattle.voronoi.specs.laws.InGiven.{meets_in}
use Rattle.voronoi.proofs.geometry.voronoi_intersect_line.Goals as goal

pub returns : goal.returns
returns c = rw (c.number.ensures, c.unwrap_or-met.ensures) (meets_in c.by_size-given.ensures line_of _ _ c.intersect_line-answer.ensures)
