-- The query's answer, as 1 or 0 in the lent number.
use Rattle.std.proofs.Common.{refl}
use Rattle.plane_calls.specs.Plane as plane_words
use Rattle.voronoi.specs.laws.Walks.{told}
use Rattle.voronoi.proofs.walking.voronoi_cells_share_edge.Goals as goal

pub returns-in-Ok : goal.returns-in-Ok
returns-in-Ok c = told c.in-Ok.ensures _ c.yes.ensures

pub returns-in-Err : goal.returns-in-Err
unfolding plane_words.bit
returns-in-Err c = rw c.from.ensures (told c.in-Err.ensures _ refl)
