-- Theorem: two boxes by edges that share an edge have the same two corners on it, bit for bit.
use Rattle.std.specs.Prelude.{◌≡◌, refl, Float, get_or, ℕ}
use Rattle.std.specs.Float.{nan}
use Rattle.plane.specs.points.Plane.{at}
use Rattle.plane.specs.declared.points.Point.{Point}
use Rattle.plane.specs.boxes.Box.{corners_of}
use Rattle.plane.specs.declared.boxes.BoundingBox.{BoundingBox}
use Rattle.plane.specs.given.Given.{edges_of}

-- top left 0, bottom left 1, bottom right 2, top right 3
abbrev corner_of : BoundingBox → ℕ → Point
corner_of b i = get_or (corners_of b) i (at nan nan)

-- the second begins where the first ends: to its right
pub beside : (l t r b r' : Float)
    → (corner_of (edges_of l t r b) 3 ≡ corner_of (edges_of r t r' b) 0) × (corner_of (edges_of l t r b) 2 ≡ corner_of (edges_of r t r' b) 1)
unfolding edges_of corners_of
beside l t r b r' = (refl, refl)

-- or below it
pub below : (l t r b b' : Float)
    → (corner_of (edges_of l t r b) 1 ≡ corner_of (edges_of l b r b') 0) × (corner_of (edges_of l t r b) 2 ≡ corner_of (edges_of l b r b') 3)
unfolding edges_of corners_of
below l t r b b' = (refl, refl)
