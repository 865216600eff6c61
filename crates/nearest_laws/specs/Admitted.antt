-- Which destinations the theorem on nearest sites speaks of: whole numbers of units of 2^-k, so near to the grid that every squared distance is computed
-- without rounding: k = 1, whole and half-whole numbers, up to 33,546,239; k = 11 up to 24,575. Decimal numbers such as 10.1 are no multiples of any 2^-k that
-- is allowed here, and are outside.
use Rattle.std.specs.Prelude.{Bool, true, false, ℕ, ◌+◌, ◌*◌, ◌^◌, ◌<◌, Float, ℤ, pos, neg_ℤ, nat_abs, ◌*ℤ◌, length, get_or, List, ◌≡◌}
use Rattle.std.specs.Float.{nan}
use Rattle.std.specs.Float.Ieee.Exact.{HasValue}
use Rattle.plane.specs.declared.points.Point.{Point}
use Rattle.grid.specs.Plane.{GridPoint, squared_to}

-- a coordinate of a destination: its sign and its size in units of 2^-k
pub record AdmittedNumber (k : ℕ) (x : Float) : Type 0 where
  pub minus : Bool
  pub units : ℕ
  pub value : HasValue x minus units (2 ^ k)
  pub near : units + 2 ^ k * 8192 < 2 ^ 26

pub record AdmittedPoint (k : ℕ) (p : Point) : Type 0 where
  pub x : AdmittedNumber k p.x
  pub y : AdmittedNumber k p.y

abbrev pub signed : Bool → ℕ → ℤ
signed true n = neg_ℤ (pos n)
signed false n = pos n

-- x is the whole number z: a zero may have either sign
pub record IsWhole (z : ℤ) (x : Float) : Type 0 where
  pub minus : Bool
  pub sign : signed minus (nat_abs z) ≡ z
  pub value : HasValue x minus (nat_abs z) 1

-- the floats of a mesh are these whole numbers
pub record AreWhole (grid : List ℤ) (sites : List Float) : Type 0 where
  pub many : length sites ≡ length grid
  pub each : (i : ℕ) → i < length grid → IsWhole (get_or grid i (pos 0)) (get_or sites i nan)

-- the destination in units of 2^-k, with signs
abbrev pub units_of : {k : ℕ} {p : Point} → AdmittedPoint k p → GridPoint
units_of a = record { x = signed a.x.minus a.x.units; y = signed a.y.minus a.y.units }

-- the squared distance to it from a place of the grid, in units of 4^-k
abbrev pub squared_units : {k : ℕ} {p : Point} → AdmittedPoint k p → GridPoint → ℤ
squared_units {k} a s = squared_to (record { x = pos (2 ^ k) *ℤ s.x; y = pos (2 ^ k) *ℤ s.y }) (units_of a)
