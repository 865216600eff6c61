-- The slice is `owed_to` at e.
use Rattle.std.proofs.Common.{◌≡◌}
use Rattle.mesh_check.specs.fan.Counts.{owed_to}
use Rattle.mesh_check.proofs.fan.count_off.Given as goal

abbrev pub invariant-loop-e : goal.invariant-loop-e
invariant-loop-e l = l.work ≡ owed_to l.fn.triangles l.fn.work l.e
