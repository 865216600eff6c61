-- Rows: the checked examples on the plane, as rows under one claim: the sides of five points of the box 0 0 2 2, the circumcenter of triangle 0 of
-- "square", and both lone-point cases. Proved by computation.
use Rattle.std.specs.Prelude.{◌≡◌, refl, Float}
use Rattle.std.specs.Float.{binary64}
use Rattle.std.specs.Float.Ieee.{of_bits, neg, add, sub, mul, div, lt, le, eq}
use Rattle.base.specs.common.Binary64.{zero, one, minus_one, two}
use Rattle.plane.specs.points.Plane.{at, near_of}
use Rattle.plane.specs.centers.Circumcenter.{center_of}
use Rattle.plane.specs.boxes.Box.{made_of}
use Rattle.plane.specs.sides.Sides.{first_side, which_of}
use Rattle.plane.specs.declared.boxes.BoundingBox.{BoundingBox}
use Rattle.plane.specs.rays.Ray.{order_one, order_of}
use Rattle.plane.specs.lines.Line.{one_if}
use Rattle.plane.specs.declared.lines.Crossing.TheVariants.{None, One}

abbrev half : Float
half = of_bits binary64 0x3fe0_0000_0000_0000

abbrev five : Float
five = of_bits binary64 0x4014_0000_0000_0000

abbrev square : BoundingBox
square = made_of (at zero zero) two two

pub record Rows : Type 0 where
  pub top_side : which_of square (at minus_one minus_one) ≡ 0
  pub bottom_side : which_of square (at one one) ≡ 2
  pub right_side : which_of square (at one zero) ≡ 3
  pub left_side : which_of square (at minus_one zero) ≡ 1
  pub no_side : which_of square (at zero zero) ≡ 4
  pub center : center_of (at (neg half) (neg half)) (at (neg half) half) (at half half) ≡ at zero zero
  pub lone_behind : order_of (at five five) (at minus_one minus_one) (One one one) ≡ None
  pub lone_ahead : order_of (at five five) (at one one) (One one one) ≡ One one one

pub rows : Rows
unfolding made_of which_of first_side near_of center_of one_if order_one of_bits neg add sub mul div lt le eq
rows =
    record {
      top_side = refl;
      bottom_side = refl;
      right_side = refl;
      left_side = refl;
      no_side = refl;
      center = refl;
      lone_behind = refl;
      lone_ahead = refl;
    }
