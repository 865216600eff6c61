-- The unpaired half-edges below triangle t have taken their places.
use Rattle.std.proofs.Common.{◌*◌}
use Rattle.mesh_check.proofs.unpaired.take_unpaired.Given as goal

abbrev pub invariant-loop-t : goal.invariant-loop-t
invariant-loop-t g l = g.E.Entries.lefts l.fn.triangles l.fn.halfedges (3 * l.t) l.work
