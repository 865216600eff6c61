-- Theorem: the schoolbook's identity holds after every turn; so the root on the page is the whole root of what was brought down.
use Rattle.std.specs.Prelude.{◌≡◌, ℕ, zero, suc, ◌+◌, ◌*◌, ◌/◌, ◌^◌, ◌<◌}
use Rattle.std.proofs.Common.{arith}
use Rattle.root.specs.whole_root.Near.{sq}
use Rattle.root.specs.whole_root.Turn.{after, Schoolbook}
use Rattle.root.specs.whole_root.laws.Turns.{begins, turns}

pub schoolbook : (m i : ℕ) → m < 2 ^ 54 → Schoolbook m i (after m i)
unfolding after
schoolbook m zero h = begins m h
schoolbook m (suc i) h = turns (schoolbook m i h)

-- the first i pairs of m's digits, with zeros after its 27, are the root squared and what is left
module _ (m i : ℕ) (h : m < 2 ^ 54) where
  pub brought_down_lem : m * 4 ^ i / 2 ^ 54 ≡ sq (after m i).root + (after m i).left
  brought_down_lem = go (m * 4 ^ i) (sq (after m i).root + (after m i).left) (after m i).rest (schoolbook m i h).value (schoolbook m i h).room
    where
      go : (w v r : ℕ) → w ≡ v * 2 ^ 54 + r → r < 2 ^ 54 → w / 2 ^ 54 ≡ v
      go w v r e l = omega arith

  pub no_larger : m * 4 ^ i / 2 ^ 54 < sq ((after m i).root + 1)
  no_larger = omega (arith, brought_down_lem, (schoolbook m i h).less)
