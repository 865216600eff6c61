-- The half-edges from triangle t on are put.
use Rattle.std.proofs.Common.{◌*◌}
use Rattle.mesh_check.specs.table.Filled.{LowestsFrom}
use Rattle.mesh_check.proofs.table.put_lowest.Given as goal

abbrev pub invariant-loop-t : goal.invariant-loop-t
invariant-loop-t l = LowestsFrom l.fn.triangles (3 * l.t) l.work
