-- The half-edges from triangle t on are packed.
use Rattle.std.proofs.Common.{◌*◌}
use Rattle.mesh_check.specs.degrees.Packed.{Lowests}
use Rattle.mesh_check.proofs.degrees.pack_lowest.Given as goal

abbrev pub invariant-loop-t : goal.invariant-loop-t
invariant-loop-t l = Lowests l.fn.triangles (3 * l.t) l.work
