-- What was passed is no EMPTY.
use Rattle.std.proofs.Common.{◌≤◌, ◌<◌, ◌≢◌, ℕ, get_or}
use Rattle.base.specs.numbers.Numbers.{EMPTY}
use Rattle.cell_memory.proofs.layout.cell_end.Given as goal

abbrev pub invariant-loop-i : goal.invariant-loop-i
invariant-loop-i l = (k : ℕ) → l.from ≤ k → k < l.i → get_or l.indexes k 0 ≢ EMPTY
