-- The slice is `left_to` at the first half-edge of triangle t, and stray the first offender below.
use Rattle.std.proofs.Common.{◌*◌}
use Rattle.mesh_check.specs.border.Marks.{Unmarking}
use Rattle.mesh_check.proofs.border.unmark.Given as goal

abbrev pub invariant-loop-t : goal.invariant-loop-t
invariant-loop-t l = Unmarking l.fn.triangles l.fn.halfedges l.fn.hull l.fn.work l.work (3 * l.t) l.stray
