-- Each turn writes the first of the neighbours that are left.
use Rattle.mesh.specs.Mesh.{whole_of}
use Rattle.walks.specs.neighbours.Neighbours.{starts_of}
use Rattle.walks.specs.neighbours.laws.NeighboursLoop.{NeighboursWritten}
use Rattle.walks.proofs.neighbours.neighbours.Given as goal

abbrev pub invariant-loop-n : goal.invariant-loop-n
invariant-loop-n l = NeighboursWritten l.triangles l.halfedges (starts_of l.triangles l.halfedges (whole_of l.halfedges l.s)) l.fn.out l.out l.c l.n
