-- Each neighbour is weighed against the best so far, so what the running minimum makes of the rest stays the hop.
use Rattle.std.proofs.Common.{length, ◌/◌}
use Rattle.walks.specs.paths.Path.{hop_of}
use Rattle.walks.specs.neighbours.laws.Cursor.{neighbours_left}
use Rattle.walks.specs.paths.laws.HopLoop.{Nearing}
use Rattle.walks.proofs.paths.hop.Given as goal

abbrev pub invariant-loop-n : goal.invariant-loop-n
invariant-loop-n l = Nearing l.sites l.triangles l.halfedges l.p (length l.sites / 2) (hop_of l.sites l.triangles l.halfedges l.table l.p l.s) l.c l.best

abbrev pub decreases-loop-n : goal.decreases-loop-n
decreases-loop-n l = length (neighbours_left l.triangles l.halfedges l.c)
