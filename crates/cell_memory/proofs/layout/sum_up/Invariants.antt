-- After i turns the first i sums stand.
use Rattle.cell_memory.specs.layout.laws.Rooms.{Adding}
use Rattle.cell_memory.proofs.layout.sum_up.Given as goal

abbrev pub invariant-loop-i : goal.invariant-loop-i
invariant-loop-i l = Adding l.n l.fn.offsets l.offsets l.i
