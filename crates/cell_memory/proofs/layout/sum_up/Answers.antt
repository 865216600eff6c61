-- No sum passes 32 bits.
use Rattle.std.proofs.Common.{arith}
use Rattle.cell_memory.specs.layout.laws.Rooms.{add_fits}
use Rattle.cell_memory.proofs.layout.sum_up.Goals as goal

pub overflow_add-offsets-in-loop-i : goal.overflow_add-offsets-in-loop-i
overflow_add-offsets-in-loop-i c = omega (arith, add_fits _ _ _ _ c.requires c.loop-i.invariant c.loop-i-test.true)
