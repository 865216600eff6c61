-- Exact distances between values, as whole numbers without a sign: along an axis in units of 2 ^ -1074, squared in units of 2 ^ -2148. Definitions only.
use Rattle.std.specs.Prelude.{cond, ℕ, ◌+◌, ◌-◌, Float}
use Rattle.root.specs.whole_root.Near.{sq}
use Rattle.root.specs.Root.{units}
use Rattle.plane.specs.declared.points.Point.{Point}
use Rattle.plane.specs.declared.boxes.BoundingBox.{BoundingBox}
use Rattle.ring_area.specs.Area.{below}
use Rattle.auditing.specs.total.Total.{apart}

-- a value is the first less the second; one of them is 0
abbrev pub plus_units : Float → ℕ
plus_units x = cond (below x) 0 (units x)

abbrev pub minus_units : Float → ℕ
minus_units x = cond (below x) (units x) 0

-- how far x is over y, or 0
abbrev pub over_of : Float → Float → ℕ
over_of x y = plus_units x + minus_units y - (minus_units x + plus_units y)

-- |x - y|
abbrev pub apart_of : Float → Float → ℕ
apart_of x y = apart (plus_units x + minus_units y) (minus_units x + plus_units y)

-- the box's width and height together
abbrev pub across_and_down : BoundingBox → ℕ
across_and_down b = apart_of b.right b.left + apart_of b.bottom b.top

-- the way from p to q along the axes, and the squared distance
abbrev pub along_axes : Point → Point → ℕ
along_axes p q = apart_of p.x q.x + apart_of p.y q.y

abbrev pub exact_square : Point → Point → ℕ
exact_square p q = sq (apart_of p.x q.x) + sq (apart_of p.y q.y)
