-- Each entry adds at the place after it.
use Rattle.std.proofs.Common.{arith, refl}
use Rattle.cell_memory.specs.layout.laws.Rooms.{tally_fits, tally_step}
use Rattle.cell_memory.proofs.layout.tally.Goals as goal

pub overflow_add-offsets-in-loop-entry : goal.overflow_add-offsets-in-loop-entry
overflow_add-offsets-in-loop-entry c = omega (arith, tally_fits _ _ _ _ _ _ c.requires c.loop-entry.invariant c.loop-entry-test.true c.wide.ensures)

pub loop-entry-preserved : goal.loop-entry-preserved
loop-entry-preserved c = tally_step _ _ _ _ _ _ c.requires c.loop-entry.invariant c.loop-entry-test.true c.wide.ensures _ refl
