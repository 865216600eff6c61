-- The box from center and size, its corners and its size recomputed.
use Rattle.std.specs.Prelude.{List, [], ◌∷◌, Float}
use Rattle.base.specs.common.Binary64.{◌⊞◌, ◌⊟◌, ◌⊘◌, two}
use Rattle.plane.specs.points.Plane.{at}
use Rattle.plane.specs.declared.points.Point.{Point}
use Rattle.plane.specs.declared.boxes.BoundingBox.{BoundingBox}

unfoldable pub made_of : Point → Float → Float → BoundingBox
made_of c w h = record { center = c; left = c.x ⊟ w ⊘ two; top = c.y ⊟ h ⊘ two; right = c.x ⊞ w ⊘ two; bottom = c.y ⊞ h ⊘ two }

-- recomputed from the edges
unfoldable pub width_of : BoundingBox → Float
width_of b = b.right ⊟ b.left

unfoldable pub height_of : BoundingBox → Float
height_of b = b.bottom ⊟ b.top

unfoldable pub corners_of : BoundingBox → List Point
corners_of b = at b.left b.top ∷ at b.left b.bottom ∷ at b.right b.bottom ∷ at b.right b.top ∷ []
