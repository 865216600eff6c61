-- No place passed is the second that begins a run, and their count says whether one has been passed.
use Rattle.std.specs.Prelude.{ℕ, ◌<◌, ◌≤◌}
use Rattle.grid.specs.border.ShortForm.{StartAt, LoneAt}
use Rattle.grid.specs.border.laws.Hulls.{RunBegun}
use Rattle.grid.proofs.border.check_starts.Given as goal

abbrev pub invariant-loop-i : goal.invariant-loop-i
invariant-loop-i l = (l.starts ≤ 1) × RunBegun (StartAt l.fn.grid l.fn.hull) l.i l.starts × ((k : ℕ) → k < l.i → LoneAt l.fn.grid l.fn.hull k)
