-- Each turn writes one more whole number.
use Rattle.std.proofs.Common.{◌≡◌, ℕ, ◌<◌, ◌≤◌, length, get_or, pos}
use Rattle.nearest.specs.whole_sites.Whole.{wholes_of}
use Rattle.nearest.proofs.whole_sites.to_grid.Given as goal

abbrev pub invariant-loop-i : goal.invariant-loop-i
invariant-loop-i l = (l.i ≤ length l.sites) × (length l.grid ≡ length l.fn.grid) × ((k : ℕ) → k < l.i → get_or l.grid k (pos 0) ≡ get_or (wholes_of l.sites) k (pos 0))
