-- Theorem: what the line's crossings compute is finite wherever it is used: slope, offset and the four sides' values inside the branches that guard them,
-- for points up to 2 ^ 485; and a crossing lies within the box's own bounds.
use Rattle.std.specs.Prelude.{◌≡◌, true, false, ◌⊎◌, ℕ, suc, ◌+◌, ◌≤◌, Float}
use Rattle.std.proofs.Common.{sym, subst, ⊎_elim, arith}
use Prim.{tt}
use Rattle.std.specs.Float.{binary64}
use Rattle.std.specs.Float.Ieee.{lt}
use Rattle.root.specs.Root.{magnitude}
use Rattle.root.specs.laws.Bounds.{OneOrMore, weaken, add_bound, sub_bound, mul_bound, div_bound, bounded_finite}
use Rattle.root.specs.Bounded.{Bounded}
use Rattle.root.specs.laws.Sizes.{AtLeast, quotient_bound, quotient_least}
use Rattle.root.specs.laws.Tested.{above_eps, from_eps, one_or_more, between_bounded}
use Rattle.base.specs.common.laws.And.{holds}
use Rattle.base.specs.common.Binary64.{◌⊞◌, ◌⊟◌, ◌⊠◌, ◌⊘◌}
use Rattle.base.specs.numbers.Numbers.{tolerance}
use Rattle.plane.specs.points.Finite.{BoundedPoint}
use Rattle.plane.specs.declared.points.Point.{Point}
use Rattle.plane.specs.boxes.Finite.{BoundedBox}
use Rattle.plane.specs.declared.boxes.BoundingBox.{BoundingBox}
use Rattle.plane.specs.lines.Line.{line_of}
use Rattle.plane.specs.lines.OnBox.{InRange, OnEdge, OnBox, line_own}
use Rattle.plane.specs.declared.lines.Crossing.{Crossing}
use Rattle.plane.specs.declared.lines.Crossing.TheVariants.{None, One, Two}

-- ---- the line's values, as `line_of` has them
abbrev pub dx_of : Point → Point → Float
dx_of p q = q.x ⊟ p.x

abbrev pub dy_of : Point → Point → Float
dy_of p q = q.y ⊟ p.y

abbrev pub slope_of : Point → Point → Float
slope_of p q = dy_of p q ⊘ dx_of p q

abbrev pub offset_of : Point → Point → Float
offset_of p q = p.y ⊟ p.x ⊠ slope_of p q

-- y where x is a side's, and x where y is
abbrev pub y_at : Point → Point → Float → Float
y_at p q x = x ⊠ slope_of p q ⊞ offset_of p q

abbrev pub x_at : Point → Point → Float → Float
x_at p q y = (y ⊟ offset_of p q) ⊘ slope_of p q

module _ (k : ℕ) (room : k + k + 53 ≤ 1023) (p q : Point) (P : BoundedPoint k p) (Q : BoundedPoint k q) where
  pub dx_bounded : Bounded (suc k) (dx_of p q)
  dx_bounded = sub_bound binary64 q.x p.x k (omega arith) Q.x P.x

  pub dy_bounded : Bounded (suc k) (dy_of p q)
  dy_bounded = sub_bound binary64 q.y p.y k (omega arith) Q.y P.y

  -- where |dx| is 2 ^ -50 at least
  module _ (wide : AtLeast 1 50 (dx_of p q)) where
    pub slope_bounded : Bounded (k + 51) (slope_of p q)
    slope_bounded = weaken (slope_of p q) (suc k + 50) (k + 51) (omega arith) (quotient_bound (dy_of p q) (dx_of p q) (suc k) 50 (omega arith) dy_bounded wide)

    -- of a slope up to 2 ^ j
    times : (j : ℕ) → j ≤ k + 51 → Bounded j (slope_of p q) → (x : Float) → Bounded k x → Bounded (k + j) (x ⊠ slope_of p q)
    times j h s x b = mul_bound binary64 x (slope_of p q) k j (omega arith) b s

    offset_by : (j : ℕ) → j ≤ k + 51 → Bounded j (slope_of p q) → Bounded (suc (k + j)) (offset_of p q)
    offset_by j h s = sub_bound binary64 p.y (p.x ⊠ slope_of p q) (k + j) (omega arith) (weaken p.y k (k + j) (omega arith) P.y) (times j h s p.x P.x)

    less_by : (j : ℕ) → j ≤ k + 51 → Bounded j (slope_of p q) → (y : Float) → Bounded k y → Bounded (suc (suc (k + j))) (y ⊟ offset_of p q)
    less_by j h s y b = sub_bound binary64 y (offset_of p q) (suc (k + j)) (omega arith) (weaken y k (suc (k + j)) (omega arith) b) (offset_by j h s)

    pub offset_bounded : Bounded (k + k + 52) (offset_of p q)
    offset_bounded = weaken (offset_of p q) (suc (k + (k + 51))) (k + k + 52) (omega arith) (offset_by (k + 51) (omega arith) slope_bounded)

    pub y_bounded : (x : Float) → Bounded k x → Bounded (k + k + 53) (y_at p q x)
    y_bounded x b =
        weaken (y_at p q x) (suc (k + k + 52)) (k + k + 53) (omega arith)
        (add_bound binary64 (x ⊠ slope_of p q) (offset_of p q) (k + k + 52) (omega arith)
        (weaken (x ⊠ slope_of p q) (k + (k + 51)) (k + k + 52) (omega arith) (times (k + 51) (omega arith) slope_bounded x b)) offset_bounded)

    -- and |dy| too: the slope is 2 ^ -(k + 51) at least; where it is below 1 the dividend is small, and above 1 the quotient is no larger
    pub x_bounded : AtLeast 1 50 (dy_of p q) → (y : Float) → Bounded k y → Bounded (k + k + 53) (x_at p q y)
    x_bounded tall y b = ⊎_elim gentle steep (one_or_more (slope_of p q) (k + 51) slope_bounded)
      where
        least : AtLeast 1 (50 + suc k) (slope_of p q)
        least = quotient_least (dy_of p q) (dx_of p q) 50 (suc k) (omega arith) (bounded_finite (slope_of p q) (k + 51) slope_bounded) tall dx_bounded

        gentle : Bounded 0 (slope_of p q) → Bounded (k + k + 53) (x_at p q y)
        gentle s =
            weaken (x_at p q y) (suc (suc (k + 0)) + (50 + suc k)) (k + k + 53) (omega arith)
            (quotient_bound (y ⊟ offset_of p q) (slope_of p q) (suc (suc (k + 0))) (50 + suc k) (omega arith) (less_by 0 (omega arith) s y b) least)

        steep : OneOrMore (slope_of p q) → Bounded (k + k + 53) (x_at p q y)
        steep s =
            weaken (x_at p q y) (suc (suc (k + (k + 51)))) (k + k + 53) (omega arith)
            (div_bound binary64 (y ⊟ offset_of p q) (slope_of p q) (suc (suc (k + (k + 51)))) (omega arith) (less_by (k + 51) (omega arith) slope_bounded y b) s)

  -- ---- inside the branches: left and right, then top and bottom
  pub sides_finite : lt tolerance (magnitude (dx_of p q)) ≡ true → (x : Float) → Bounded k x → Bounded (k + k + 53) (y_at p q x)
  sides_finite h = y_bounded (above_eps (dx_of p q) (suc k) dx_bounded h)

  pub levels_finite : lt tolerance (magnitude (dy_of p q)) ≡ true → lt (magnitude (dx_of p q)) tolerance ≡ false → (y : Float) → Bounded k y → Bounded (k + k + 53) (x_at p q y)
  levels_finite h g = x_bounded (from_eps (dx_of p q) (suc k) dx_bounded g) (above_eps (dy_of p q) (suc k) dy_bounded h)

-- ---- the points that are answered
abbrev pub BoundedCrossing : ℕ → Crossing → Type 0
BoundedCrossing k None = Unit
BoundedCrossing k (One x y) = Bounded k x × Bounded k y
BoundedCrossing k (Two x y u v) = (Bounded k x × Bounded k y) × (Bounded k u × Bounded k v)

module _ {k : ℕ} {b : BoundingBox} (B : BoundedBox k b) where
  one_of : {x a z : Float} → Bounded k a → Bounded k z → (x ≡ a) ⊎ (x ≡ z) → Bounded k x
  one_of h g = ⊎_elim (λ e. subst (Bounded k) (sym e) h) (λ e. subst (Bounded k) (sym e) g)

  between : (a x z : Float) → Bounded k a → Bounded k z → InRange a x z → Bounded k x
  between a x z h g w = between_bounded a x z k h g (holds w.0) (holds w.1)

  edge_bounded : (x y : Float) → OnEdge b x y → Bounded k x × Bounded k y
  edge_bounded x y =
      ⊎_elim
      (λ w. (one_of B.left B.right w.0, between b.top y b.bottom B.top B.bottom w.1))
      (λ w. (between b.left x b.right B.left B.right w.1, one_of B.top B.bottom w.0))

  pub crossing_bounded : (c : Crossing) → OnBox b c → BoundedCrossing k c
  crossing_bounded None h = tt
  crossing_bounded (One x y) h = edge_bounded x y h
  crossing_bounded (Two x y u v) h = (edge_bounded x y h.0, edge_bounded u v h.1)

  pub line_bounded : (p q : Point) → BoundedCrossing k (line_of b p q)
  line_bounded p q = crossing_bounded (line_of b p q) (line_own b p q)
