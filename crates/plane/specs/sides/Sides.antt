-- What is inside a box, and the side that a point is on.
use Rattle.std.specs.Prelude.{Bool, ◌&&◌, ℕ, eqb}
use Rattle.std.specs.Float.Ieee.{le}
use Rattle.base.specs.common.Pick.{pick}
use Rattle.plane.specs.points.Plane.{near_of}
use Rattle.plane.specs.declared.points.Point.{Point}
use Rattle.plane.specs.declared.boxes.BoundingBox.{BoundingBox}

unfoldable pub inside_of : BoundingBox → Point → Bool
inside_of b p = le b.left p.x && le p.x b.right && (le b.top p.y && le p.y b.bottom)

-- the side that a point is on: top 0, bottom 2, right 3, left 1, the first within tolerance; 4 for none
unfoldable pub first_side : Bool → Bool → Bool → Bool → ℕ
first_side top bottom right left =
    pick top (λ _. 0) (λ _. pick bottom (λ _. 2) (λ _. pick right (λ _. 3) (λ _. pick left (λ _. 1) (λ _. 4))))

unfoldable pub which_of : BoundingBox → Point → ℕ
which_of b p = first_side (near_of p.y b.top) (near_of p.y b.bottom) (near_of p.x b.right) (near_of p.x b.left)

unfoldable pub exclusive_of : BoundingBox → Point → Bool
exclusive_of b p = inside_of b p && eqb (which_of b p) 4
