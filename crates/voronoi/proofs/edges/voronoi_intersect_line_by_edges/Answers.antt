-- `voronoi::edges::voronoi_intersect_line_by_edges` meets its contract: the box that is made, and the call in it.
use Rattle.plane.specs.lines.Line.{line_of}
use Rattle.voronoi.specs.laws.InGiven.{meets_in}
use Rattle.voronoi.proofs.edges.voronoi_intersect_line_by_edges.Goals as goal

pub returns : goal.returns
returns c = rw (c.number.ensures, c.unwrap_or-met.ensures) (meets_in c.by_edges-given.ensures line_of _ _ c.intersect_line-answer.ensures)
