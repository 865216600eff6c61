-- Every place passed keeps the corners' rule.
use Rattle.std.specs.Prelude.{ℕ, ◌<◌}
use Rattle.grid.specs.border.ShortForm.{CornerAt}
use Rattle.grid.proofs.border.check_corners.Given as goal

abbrev pub invariant-loop-i : goal.invariant-loop-i
invariant-loop-i l = (k : ℕ) → k < l.i → CornerAt l.fn.grid l.fn.hull k
