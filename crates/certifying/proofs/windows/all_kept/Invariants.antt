-- Every corner that was passed is kept.
use Rattle.std.proofs.Common.{◌≡◌, true, ℕ, ◌<◌, get_or}
use Rattle.plane.specs.points.Flat.{point_at}
use Rattle.certifying.specs.windows.Windows.{window_kept}
use Rattle.certifying.proofs.windows.all_kept.Given as goal

abbrev pub invariant-loop-e : goal.invariant-loop-e
invariant-loop-e l = (i : ℕ) → i < l.e-index → window_kept l.w l.s (point_at l.vertices (get_or l.entries i 0)) ≡ true
