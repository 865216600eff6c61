-- After i turns the first i entries are counted.
use Rattle.std.specs.Prelude.{take}
use Rattle.cell_memory.specs.layout.Rooms.{Tallied}
use Rattle.cell_memory.proofs.layout.tally.Given as goal

abbrev pub invariant-loop-entry : goal.invariant-loop-entry
invariant-loop-entry l = Tallied (take l.entry-index l.list) l.by l.fn.offsets l.offsets
