-- The query's answer, its half-edge in the lent number.
use Rattle.voronoi.specs.laws.Walks.{found}
use Rattle.voronoi.proofs.walking.voronoi_shared_edge.Goals as goal

pub returns-in-Ok : goal.returns-in-Ok
returns-in-Ok c = found c.in-Ok.ensures

pub returns-in-Err : goal.returns-in-Err
returns-in-Err c = rw c.from.ensures (found c.in-Err.ensures)
