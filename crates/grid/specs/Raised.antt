-- What is computed, on numbers without a sign: coordinates moved up by 8,192, and a number with a sign as what is added and what is taken off.
-- That this is the plane's is laws/Same.
use Rattle.std.specs.Prelude.{Bool, ℕ, ◌+◌, ◌*◌, ◌≤◌, ltb, ℤ, pos, nat_abs, ◌+ℤ◌}
use Rattle.grid.specs.Plane.{GridPoint}
use Rattle.grid.specs.declared.Raised.{Raised}
use Rattle.grid.specs.declared.Signed.{Signed}

-- a coordinate moved up
unfoldable pub up : ℤ → ℕ
up v = nat_abs (v +ℤ pos 8192)

-- a place moved up, with the height x² + y²
abbrev pub raised_of : GridPoint → Raised
raised_of p = record { x = up p.x; y = up p.y; z = up p.x * up p.x + up p.y * up p.y }

-- twice the area of a, b, c, above 0 where they turn counter-clockwise with Y downward
abbrev pub area_of : Raised → Raised → Raised → Signed
area_of a b c = record {
  plus = a.y * b.x + b.y * c.x + c.y * a.x;
  minus = a.x * b.y + b.x * c.y + c.x * a.y;
}

-- the determinant of four places with their heights, above 0 where d lies strictly below the plane of a, b, c, for an area above 0
abbrev pub lift_of : Raised → Raised → Raised → Raised → Signed
lift_of a b c d = record {
  plus = a.z * (area_of b c d).plus + b.z * (area_of c a d).plus + c.z * (area_of a b d).plus + d.z * (area_of a b c).minus;
  minus = a.z * (area_of b c d).minus + b.z * (area_of c a d).minus + c.z * (area_of a b d).minus + d.z * (area_of a b c).plus;
}

-- an edge goes up where this grows
abbrev pub level_of : Raised → ℕ
level_of a = 32768 * a.y + a.x

-- a number with a sign is above 0
abbrev pub above : Signed → Bool
above s = ltb s.minus s.plus

-- the bounds of what was moved up: 2^14, and 2^29 for the height
pub record Low (a : Raised) : Type 0 where
  pub x : a.x ≤ 16384
  pub y : a.y ≤ 16384
  pub z : a.z ≤ 536870912

-- and of an area: 3 · 2^28
pub record Small (s : Signed) : Type 0 where
  pub plus : s.plus ≤ 805306368
  pub minus : s.minus ≤ 805306368
