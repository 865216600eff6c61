-- Theorem: bounds from the limits of docs/use/RULES.md: `Bounded k x` says that x is finite and of magnitude at most 2 ^ k. First what the calls on points and the box answer; then the values that
-- the source's operations go through, so that no test of theirs meets a NaN.
use Rattle.std.specs.Prelude.{◌≡◌, true, false, not, cond, ℕ, suc, ◌+◌, ◌≤◌, ◌<◌, T, Float, get_or}
use Rattle.std.specs.Float.{nan, binary64}
use Rattle.std.specs.Float.Ieee.{fits, lt, le}
use Rattle.base.specs.numbers.Numbers.{tolerance}
use Rattle.base.specs.common.Binary64.{◌⊞◌, ◌⊟◌, zero}
use Rattle.root.specs.Root.{Root, magnitude}
use Rattle.root.specs.Bounded.{Bounded}
use Rattle.root.specs.Sqrt.{sqrt_of}
use Rattle.root.specs.SqrtBounds.{root_bound, root_positive, sqrt_bound, sqrt_positive}
use Rattle.plane.specs.points.Plane.{at, dist2_of}
use Rattle.plane.specs.points.Rules.{ok_site}
use Rattle.plane.specs.points.Finite.{BoundedPoint, gap_bounded, dist2_total, site_dist2}
use Rattle.plane.specs.declared.points.Point.{Point}
use Rattle.plane.specs.centers.Circumcenter.{ok_center}
use Rattle.plane.specs.centers.Finite.{center_bounded}
use Rattle.plane.specs.boxes.Box.{corners_of}
use Rattle.plane.specs.boxes.Finite.{BoundedBox, corner_dist2}
use Rattle.plane.specs.declared.boxes.BoundingBox.{BoundingBox}
use Rattle.plane.specs.rays.Finite.{ray_end}
use Rattle.plane.specs.lines.Finite.{dx_of, dy_of, x_at, y_at, sides_finite, levels_finite}

-- the edges of the box and its size recomputed
pub record BoundedEdges (left top right bottom across down : Float) : Type 0 where
  pub left_edge : Bounded 101 left
  pub top_edge : Bounded 101 top
  pub right_edge : Bounded 101 right
  pub bottom_edge : Bounded 101 bottom
  pub width : Bounded 102 across
  pub height : Bounded 102 down

-- the center of a box that is given by its edges, and its size recomputed
pub record BoundedCenter (x y across down : Float) : Type 0 where
  pub center_x : Bounded 103 x
  pub center_y : Bounded 103 y
  pub width : Bounded 102 across
  pub height : Bounded 102 down

-- two points, zeros where there is none
pub record BoundedMeeting (x y u v : Float) : Type 0 where
  pub first_x : Bounded 101 x
  pub first_y : Bounded 101 y
  pub second_x : Bounded 101 u
  pub second_y : Bounded 101 v

-- ---- the values on the way
pub record Bounds : Type 0 where
  -- the difference that the tolerance test makes
  pub gap : (k : ℕ) (a b : Float) → suc k ≤ 1023 → Bounded k a → Bounded k b → Bounded (suc k) (cond (lt b a) (a ⊟ b) (b ⊟ a))
  -- squared distances of sites, and of a site and a corner of the box
  pub sites : (a b : Point) → ok_site a ≡ true → ok_site b ≡ true → Bounded 203 (dist2_of a b)
  pub corners : (b : BoundingBox) → BoundedBox 101 b → (p : Point) → ok_site p ≡ true → (i : ℕ) → i < 4 → Bounded 205 (dist2_of p (get_or (corners_of b) i (at nan nan)))
  -- distances are compared totally: where a is not strictly nearer to p than b, b is as near or nearer
  pub total : (k : ℕ) → suc k + suc k + 1 ≤ 1023 → (a b p : Point) → BoundedPoint k a → BoundedPoint k b → BoundedPoint k p
      → T (not (lt (dist2_of a p) (dist2_of b p))) → T (le (dist2_of b p) (dist2_of a p))
  -- an admitted circumcenter
  pub center : (p : Point) → ok_center p ≡ true → BoundedPoint 400 p
  -- the second point of a ray; where a line meets left and right, and top and bottom, in the branches that compute it
  pub ray : (k : ℕ) → suc k ≤ 1023 → (p dir : Point) → BoundedPoint k p → BoundedPoint k dir → BoundedPoint (suc k) (at (p.x ⊞ dir.x) (p.y ⊞ dir.y))
  pub sides : (k : ℕ) → k + k + 53 ≤ 1023 → (p q : Point) → BoundedPoint k p → BoundedPoint k q
      → lt tolerance (magnitude (dx_of p q)) ≡ true → (x : Float) → Bounded k x → Bounded (k + k + 53) (y_at p q x)
  pub levels : (k : ℕ) → k + k + 53 ≤ 1023 → (p q : Point) → BoundedPoint k p → BoundedPoint k q
      → lt tolerance (magnitude (dy_of p q)) ≡ true → lt (magnitude (dx_of p q)) tolerance ≡ false → (y : Float) → Bounded k y → Bounded (k + k + 53) (x_at p q y)
  -- a root of a bounded value, and of a value above 0; that of the definition, and the one that computes
  pub root : (x r : Float) (k : ℕ) → k < 1024 → T (le zero x) → Root x r → Bounded (k + k) x → Bounded k r
  pub root_above : (x r : Float) → T (fits binary64 x) → T (lt zero x) → Root x r → T (lt zero r)
  pub sqrt : (x : Float) (k : ℕ) → k < 1024 → T (fits binary64 x) → T (le zero x) → Bounded (k + k) x → Bounded k (sqrt_of x)
  pub sqrt_above : (x : Float) → T (fits binary64 x) → T (lt zero x) → T (lt zero (sqrt_of x))

pub bounds : Bounds
bounds = record {
  gap = gap_bounded;
  sites = site_dist2;
  corners = λ b. corner_dist2;
  total = dist2_total;
  center = center_bounded;
  ray = ray_end;
  sides = sides_finite;
  levels = levels_finite;
  root = root_bound;
  root_above = root_positive;
  sqrt = sqrt_bound;
  sqrt_above = sqrt_positive;
}
