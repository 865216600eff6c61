-- Each entry passed is that of the list that is made.
use Rattle.std.specs.Prelude.{◌≡◌, ℕ, ◌<◌, length, get_or}
use Rattle.base.specs.common.Binary64.{zero}
use Rattle.grid.specs.floats.Sites.{sites_made}
use Rattle.grid.proofs.floats.fill.Given as goal

abbrev pub invariant-loop-i : goal.invariant-loop-i
invariant-loop-i l = (k : ℕ) → k < l.i → get_or l.sites k zero ≡ get_or (sites_made l.fn.grid (length l.fn.sites)) k zero
