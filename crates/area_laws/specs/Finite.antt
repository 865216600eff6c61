-- Theorem: the area of a ring of at most 2 ^ 24 corners within 2 ^ 400 is finite, and at most 2 ^ 824.
use Rattle.std.specs.Prelude.{Bool, true, false, cond, List, [], ◌∷◌, ℕ, ◌-◌, ◌^◌, ◌≤◌, leb, length}
use Prim.{tt}
use Rattle.std.proofs.Common.{le_trans, le_of_eq, arith, lit≤, pow_pos, pow-add}
use Rattle.std.specs.Float.{binary64}
use Rattle.std.specs.Float.Ieee.{round, of_bits}
use Rattle.root.specs.Bounded.{Bounded}
use Rattle.root.specs.laws.Bounds.{round_bound}
use Rattle.plane.specs.declared.points.Point.{Point}
use Rattle.ring_area.specs.Area.{gains, losses, rounded_half, area}
use Rattle.ring_area.specs.laws.Bounds.{AllBounded, gained_most, lost_most}

less : (a b : ℕ) → a - b ≤ a
less a b = omega arith

settled_bounded : (g l : ℕ) → g ≤ 2 ^ 2973 → l ≤ 2 ^ 2973 → Bounded 824 (rounded_half g l)
unfolding rounded_half
settled_bounded g l a b = go (leb l g)
  where
    one : (s : Bool) (n m : ℕ) → n ≤ 2 ^ 2973 → Bounded 824 (round binary64 s (n - m) (2 ^ 2149))
    one s n m h = round_bound binary64 s (n - m) (2 ^ 2149) 824 (pow_pos 2149) (lit≤ tt) (le_trans (less n m) (le_trans h (le_of_eq (pow-add 2 824 2149))))

    go : (t : Bool) → Bounded 824 (cond t (round binary64 false (g - l) (2 ^ 2149)) (round binary64 true (l - g) (2 ^ 2149)))
    go true = one false g l a
    go false = one true l g b

pub finite : (r : List Point) → length r ≤ 2 ^ 24 → AllBounded r → Bounded 824 (area r)
unfolding area of_bits
finite [] h e = lit≤ tt
finite (p ∷ r) h e = settled_bounded (gains p p r) (losses p p r) (gained_most (p ∷ r) h e) (lost_most (p ∷ r) h e)
