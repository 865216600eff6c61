-- Theorem: a box that keeps rule 3 has finite edges, corners and size, and its corners' squared distances to sites are finite.
use Rattle.std.specs.Prelude.{◌≡◌, true, ◌&&◌, get_or, Float}
use Prim.{tt}
use Prim.Native.Nat.{ℕ, zero, suc, ◌≤◌, ◌<◌}
use Rattle.std.proofs.Common.{arith, lit≤}
use Rattle.std.specs.Float.{nan}
use Rattle.std.specs.Float.Ieee.{binary64, of_bits, lt, le}
use Rattle.base.specs.common.laws.And.{and_left, and_right, holds}
use Rattle.base.specs.common.Binary64 as R
use Rattle.base.specs.common.Binary64.{◌⊘◌, two}
use Rattle.base.specs.numbers.Numbers.{large}
use Rattle.root.specs.laws.Bounds.{div_bound, two_more, sub_bound, add_bound}
use Rattle.root.specs.Bounded.{Bounded}
use Rattle.root.specs.laws.Tested.{plus_bound}
use Rattle.plane.specs.points.Plane.{at, dist2_of}
use Rattle.plane.specs.points.Rules.{ok_site}
use Rattle.plane.specs.points.Finite.{BoundedPoint, point_weaken, site_bounded, dist2_bounded}
use Rattle.plane.specs.declared.points.Point.{Point}
use Rattle.plane.specs.boxes.Box.{made_of, width_of, height_of, corners_of}
use Rattle.plane.specs.boxes.Rules.{ok_box}
use Rattle.plane.specs.declared.boxes.BoundingBox.{BoundingBox}

-- the edges finite, and of magnitude at most 2 ^ k
pub record BoundedBox (k : ℕ) (b : BoundingBox) : Type 0 where
  pub left : Bounded k b.left
  pub right : Bounded k b.right
  pub top : Bounded k b.top
  pub bottom : Bounded k b.bottom

half : (w : Float) → (lt R.zero w && le w large) ≡ true → Bounded 100 (w ⊘ two)
unfolding of_bits
half w h = div_bound binary64 w two 100 (lit≤ tt) (plus_bound w 100 (holds (and_left (lt R.zero w) (le w large) h)) (holds (and_right (lt R.zero w) (le w large) h))) two_more

pub box_bounded : (c : Point) (w h : Float) → ok_box c w h ≡ true → BoundedBox 101 (made_of c w h)
unfolding ok_box made_of
box_bounded c w h e =
    let a = ok_site c in
    let v = lt R.zero w && le w large in
    let u = lt R.zero h && le h large in
    let o = lt (made_of c w h).left (made_of c w h).right && lt (made_of c w h).top (made_of c w h).bottom in
    let first = and_left (a && v && u) o e in
    let s = site_bounded c (and_left a v (and_left (a && v) u first)) in
    let hw = half w (and_right a v (and_left (a && v) u first)) in
    let hh = half h (and_right (a && v) u first) in
    record {
      left = sub_bound binary64 c.x (w ⊘ two) 100 (lit≤ tt) s.x hw;
      right = add_bound binary64 c.x (w ⊘ two) 100 (lit≤ tt) s.x hw;
      top = sub_bound binary64 c.y (h ⊘ two) 100 (lit≤ tt) s.y hh;
      bottom = add_bound binary64 c.y (h ⊘ two) 100 (lit≤ tt) s.y hh;
    }

module _ {k : ℕ} {b : BoundingBox} (s : BoundedBox k b) where
  pub corner_bounded : (i : ℕ) → i < 4 → BoundedPoint k (get_or (corners_of b) i (at nan nan))
  unfolding corners_of
  corner_bounded zero h = record { x = s.left; y = s.top }
  corner_bounded (suc zero) h = record { x = s.left; y = s.bottom }
  corner_bounded (suc (suc zero)) h = record { x = s.right; y = s.bottom }
  corner_bounded (suc (suc (suc zero))) h = record { x = s.right; y = s.top }
  corner_bounded (suc (suc (suc (suc i)))) h = absurd (omega arith)

  pub width_bounded : suc k ≤ 1023 → Bounded (suc k) (width_of b)
  unfolding width_of
  width_bounded h = sub_bound binary64 b.right b.left k h s.right s.left

  pub height_bounded : suc k ≤ 1023 → Bounded (suc k) (height_of b)
  unfolding height_of
  height_bounded h = sub_bound binary64 b.bottom b.top k h s.bottom s.top

-- of a site and a corner
pub corner_dist2 : {b : BoundingBox} → BoundedBox 101 b → (p : Point) → ok_site p ≡ true → (i : ℕ) → i < 4 → Bounded 205 (dist2_of p (get_or (corners_of b) i (at nan nan)))
corner_dist2 {b} s p h i l = dist2_bounded 101 (lit≤ tt) p _ (point_weaken (lit≤ tt) (site_bounded p h)) (corner_bounded s i l)
