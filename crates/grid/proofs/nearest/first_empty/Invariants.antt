-- No entry passed is EMPTY.
use Rattle.std.specs.Prelude.{ℕ, ◌<◌, ◌≢◌, get_or}
use Rattle.base.specs.numbers.Numbers.{EMPTY}
use Rattle.grid.proofs.nearest.first_empty.Given as goal

abbrev pub invariant-loop-s : goal.invariant-loop-s
invariant-loop-s l = (k : ℕ) → k < l.s → get_or l.fn.table k 0 ≢ EMPTY
