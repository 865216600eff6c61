-- `cell_memory::layout::fill_from` meets its contract.
use Rattle.std.proofs.Common.{arith}
use Rattle.cell_memory.specs.layout.laws.Overwritten.{clearing_step}
use Rattle.cell_memory.proofs.layout.fill_from.Goals as goal

pub loop-place-preserved : goal.loop-place-preserved
loop-place-preserved g c = clearing_step _ _ _ _ _ c.loop-place.invariant (omega (arith, c.loop-place.invariant.long, c.loop-place-test.true))
