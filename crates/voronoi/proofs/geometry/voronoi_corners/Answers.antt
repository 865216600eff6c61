-- `voronoi::geometry::voronoi_corners` meets its contract: the box that is made, and the call in it.
use Rattle.voronoi.specs.laws.InGiven.{corners_in}
use Rattle.voronoi.proofs.geometry.voronoi_corners.Goals as goal

pub returns : goal.returns
returns c = rw (c.number.ensures) (corners_in c.by_size-given.ensures c.corners.ensures)
