-- `voronoi::geometry::voronoi_project_ray` meets its contract: the box that is made, and the call in it.
use Rattle.plane.specs.rays.Ray.{ray_of}
use Rattle.voronoi.specs.laws.InGiven.{meets_in}
use Rattle.voronoi.proofs.geometry.voronoi_project_ray.Goals as goal

pub returns : goal.returns
returns c = rw (c.number.ensures, c.unwrap_or-met.ensures) (meets_in c.by_size-given.ensures ray_of _ _ c.project_ray-answer.ensures)
