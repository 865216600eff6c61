-- Theorem: rule 6 keeps points and squared distances finite, so comparing distances is total. Circumcenters and centroids: plane::centers, specs/Finite.antt.
use Rattle.std.specs.Prelude.{◌≡◌, Bool, true, false, not, cond, T, Float}
use Prim.{tt}
use Prim.Native.Nat.{ℕ, suc, ◌+◌, ◌≤◌}
use Rattle.std.proofs.Common.{arith, lit≤}
use Rattle.std.specs.Float.Ieee.{binary64, is_nan, of_bits, lt, le}
use Rattle.root.specs.laws.Bounds.{weaken, sub_bound, mul_bound, add_bound, bounded_finite, finite_no_nan}
use Rattle.root.specs.Bounded.{Bounded}
use Rattle.root.specs.laws.Tested.{le_bound}
use Rattle.root.specs.laws.Order.{not_lt}
use Rattle.base.specs.common.laws.And.{and_left, and_right, holds}
use Rattle.base.specs.common.Binary64.{◌⊟◌, ◌⊠◌}
use Rattle.plane.specs.points.Plane.{dist2_of}
use Rattle.plane.specs.points.Rules.{ok_coord, ok_site}
use Rattle.plane.specs.declared.points.Point.{Point}

-- both coordinates finite, and of magnitude at most 2 ^ k
pub record BoundedPoint (k : ℕ) (p : Point) : Type 0 where
  pub x : Bounded k p.x
  pub y : Bounded k p.y

pub point_weaken : {i j : ℕ} {p : Point} → i ≤ j → BoundedPoint i p → BoundedPoint j p
point_weaken {i} {j} {p} h b = record { x = weaken p.x i j h b.x; y = weaken p.y i j h b.y }

-- ---- rule 6
coordinate : (x : Float) → ok_coord x ≡ true → Bounded 100 x
unfolding ok_coord of_bits
coordinate x e = le_bound x 100 (holds e)

pub site_bounded : (p : Point) → ok_site p ≡ true → BoundedPoint 100 p
unfolding ok_site
site_bounded p e = record { x = coordinate p.x (and_left (ok_coord p.x) (ok_coord p.y) e); y = coordinate p.y (and_right (ok_coord p.x) (ok_coord p.y) e) }

-- ---- the difference that the tolerance test makes
pub gap_bounded : (k : ℕ) (a b : Float) → suc k ≤ 1023 → Bounded k a → Bounded k b → Bounded (suc k) (cond (lt b a) (a ⊟ b) (b ⊟ a))
gap_bounded k a b h p q = go (lt b a)
  where
    go : (t : Bool) → Bounded (suc k) (cond t (a ⊟ b) (b ⊟ a))
    go true = sub_bound binary64 a b k h p q
    go false = sub_bound binary64 b a k h q p

-- ---- squared distances
module _ (k : ℕ) (room : suc k + suc k + 1 ≤ 1023) where
  square_bounded : (x y : Float) → Bounded k x → Bounded k y → Bounded (suc k + suc k) ((x ⊟ y) ⊠ (x ⊟ y))
  square_bounded x y a b = let d = sub_bound binary64 x y k (omega arith) a b in mul_bound binary64 (x ⊟ y) (x ⊟ y) (suc k) (suc k) (omega arith) d d

  pub dist2_bounded : (a b : Point) → BoundedPoint k a → BoundedPoint k b → Bounded (suc (suc k + suc k)) (dist2_of a b)
  unfolding dist2_of
  dist2_bounded a b p q =
      add_bound binary64 _ _ (suc k + suc k) (omega arith) (square_bounded a.x b.x p.x q.x) (square_bounded a.y b.y p.y q.y)

  pub dist2_no_nan : (a b : Point) → BoundedPoint k a → BoundedPoint k b → T (not (is_nan (dist2_of a b)))
  dist2_no_nan a b p q = finite_no_nan (dist2_of a b) (bounded_finite (dist2_of a b) (suc (suc k + suc k)) (dist2_bounded a b p q))

  -- where a is not strictly nearer to p than b, b is as near or nearer
  pub dist2_total : (a b p : Point) → BoundedPoint k a → BoundedPoint k b → BoundedPoint k p → T (not (lt (dist2_of a p) (dist2_of b p))) → T (le (dist2_of b p) (dist2_of a p))
  dist2_total a b p h g e n = not_lt (dist2_of a p) (dist2_of b p) (dist2_no_nan a p h e) (dist2_no_nan b p g e) n

-- of two sites, or a site and a destination
pub site_dist2 : (a b : Point) → ok_site a ≡ true → ok_site b ≡ true → Bounded 203 (dist2_of a b)
site_dist2 a b p q = dist2_bounded 100 (lit≤ tt) a b (site_bounded a p) (site_bounded b q)
