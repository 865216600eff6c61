-- Rows: a square of side 1 as its piece turns has area 1, the other way round -1; a side walked to and fro has none.
use Rattle.std.specs.Prelude.{◌≡◌, refl, true, false, [], ◌∷◌, pos, Float}
use Rattle.std.specs.Float.{fin}
use Rattle.std.specs.Float.Ieee.{round}
use Rattle.plane.specs.points.Plane.{at}
use Rattle.ring_area.specs.Area.{area, gains, losses, rounded_half}

abbrev o : Float
o = fin false 0 (pos 0)

abbrev one : Float
one = fin false 1 (pos 0)

abbrev back : Float
back = fin true 1 (pos 0)

-- cell 1 of "square"
pub example_square : area (at o o ∷ at back o ∷ at back one ∷ at o one ∷ []) ≡ one
unfolding area gains losses rounded_half round
example_square = refl

pub example_turned : area (at o o ∷ at o one ∷ at back one ∷ at back o ∷ []) ≡ back
unfolding area gains losses rounded_half round
example_turned = refl

pub example_side : area (at o one ∷ at back one ∷ []) ≡ o
unfolding area gains losses rounded_half round
example_side = refl
