-- Theorem: the second point of a ray's line is finite, and a crossing of a ray lies within the box's own bounds.
use Rattle.std.specs.Prelude.{ℕ, suc, ◌≤◌}
use Rattle.std.specs.Float.{binary64}
use Rattle.root.specs.laws.Bounds.{add_bound}
use Rattle.base.specs.common.Binary64.{◌⊞◌}
use Rattle.plane.specs.points.Plane.{at}
use Rattle.plane.specs.points.Finite.{BoundedPoint}
use Rattle.plane.specs.declared.points.Point.{Point}
use Rattle.plane.specs.boxes.Finite.{BoundedBox}
use Rattle.plane.specs.declared.boxes.BoundingBox.{BoundingBox}
use Rattle.plane.specs.lines.Finite.{BoundedCrossing, crossing_bounded}
use Rattle.plane.specs.rays.Ray.{ray_of}
use Rattle.plane.specs.rays.OnBox.{ray_own}

-- the ray's second point
pub ray_end : (k : ℕ) → suc k ≤ 1023 → (p dir : Point) → BoundedPoint k p → BoundedPoint k dir → BoundedPoint (suc k) (at (p.x ⊞ dir.x) (p.y ⊞ dir.y))
ray_end k h p dir P D = record { x = add_bound binary64 p.x dir.x k h P.x D.x; y = add_bound binary64 p.y dir.y k h P.y D.y }

-- ---- the points that are answered
module _ {k : ℕ} {b : BoundingBox} (B : BoundedBox k b) where
  pub ray_bounded : (p dir : Point) → BoundedCrossing k (ray_of b p dir)
  ray_bounded p dir = crossing_bounded B (ray_of b p dir) (ray_own b p dir)
