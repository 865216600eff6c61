-- Every site passed keeps rule 22.
use Rattle.std.specs.Prelude.{ℕ, ◌<◌}
use Rattle.grid.specs.Plane.{WithinAt}
use Rattle.grid.proofs.first_beyond.Given as goal

abbrev pub invariant-loop-i : goal.invariant-loop-i
invariant-loop-i l = (k : ℕ) → k < l.i → WithinAt l.fn.grid k
