-- Every triangle passed turns as it must.
use Rattle.std.specs.Prelude.{ℕ, ◌<◌}
use Rattle.grid.specs.scan.Judged.{TurnAt}
use Rattle.grid.proofs.scan.check_turns.Given as goal

abbrev pub invariant-loop-t : goal.invariant-loop-t
invariant-loop-t l = (k : ℕ) → k < l.t → TurnAt l.fn.grid l.fn.triangles k
