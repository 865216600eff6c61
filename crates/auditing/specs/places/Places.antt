-- The fifth fault: two sites stand at one place, so that a piece goes to one of them. Definitions only.
use Rattle.std.specs.Prelude.{Bool, ◌&&◌, List, ℕ, Float}
use Rattle.std.specs.Float.Ieee.{eq}
use Rattle.ring_area.specs.lowest.Lowest.{any_below}
use Rattle.plane.specs.points.Flat.{point_at}
use Rattle.plane.specs.declared.points.Point.{Point}

-- -0 is 0
unfoldable pub same_of : Point → Point → Bool
same_of p q = eq p.x q.x && eq p.y q.y

-- j stands at the place of s
unfoldable pub twin_at : List Float → ℕ → ℕ → Bool
twin_at sites s j = same_of (point_at sites s) (point_at sites j)

-- one before s does
unfoldable pub has_twin : List Float → ℕ → Bool
has_twin sites s = any_below (twin_at sites s) s
