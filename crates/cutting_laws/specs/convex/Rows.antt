-- Rows: the outward directions of a right triangle, to the left, up, and to the right and down, keep on; the other way round they do not.
use Rattle.std.specs.Prelude.{◌≡◌, refl, true, false}
use Rattle.std.specs.Float.Ieee.{lt, le, eq, neg, of_bits}
use Rattle.base.specs.common.Binary64.{zero, one, minus_one}
use Rattle.plane.specs.points.Plane.{at}
use Rattle.cutting.specs.meet.Crossing.{between_down}
use Rattle.cutting_laws.specs.convex.Once.{heading_of, keeps_on}

pub left_up : keeps_on (at minus_one zero) (at zero minus_one) ≡ true
unfolding heading_of between_down eq lt le neg of_bits
left_up = refl

pub up_right : keeps_on (at zero minus_one) (at one one) ≡ true
unfolding heading_of between_down eq lt le neg of_bits
up_right = refl

pub right_left : keeps_on (at one one) (at minus_one zero) ≡ true
unfolding heading_of between_down eq lt le neg of_bits
right_left = refl

pub left_right : keeps_on (at minus_one zero) (at one one) ≡ false
unfolding heading_of between_down eq lt le neg of_bits
left_right = refl
