-- The promise of the call that flips an edge: the number, and the four lists at exit. What they are: Flips of flipping::call, Flip of crate flipping; what
-- the call is for: FlipsTheorem of flipping::call.
use Rattle.std.specs.Prelude.{List, ℕ}
use Rattle.flipping.specs.call.Flips.{FlipLists, Flips}

-- of so many sites, a hull and a half-edge: the lists before and after, the number
abbrev pub Flip : ℕ → List ℕ → ℕ → FlipLists → FlipLists → ℕ → Type 0
Flip = Flips
