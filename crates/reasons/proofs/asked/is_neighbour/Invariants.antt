-- Each turn takes the first of the neighbours that are left, and t is sought among the others.
use Rattle.std.specs.Prelude.{length}
use Rattle.mesh.specs.Mesh.{whole_of}
use Rattle.walks.specs.neighbours.Neighbours.{starts_of}
use Rattle.walks.specs.neighbours.laws.Cursor.{neighbours_left}
use Rattle.reasons.specs.laws.Search.{Seeks}
use Rattle.reasons.proofs.asked.is_neighbour.Given as goal

abbrev pub invariant-loop-x : goal.invariant-loop-x
invariant-loop-x l = Seeks l.triangles l.halfedges l.t (starts_of l.triangles l.halfedges (whole_of l.halfedges l.start)) l.c

abbrev pub decreases-loop-x : goal.decreases-loop-x
decreases-loop-x l = length (neighbours_left l.triangles l.halfedges l.c)
