-- The corners of a ring that is being cut, what its edges lie on, and the four sides of a box. Definitions only.
use Rattle.std.specs.Prelude.{Bool, true, false, cond, ℕ, Float}
use Rattle.std.specs.Float.Ieee.{lt, le}
use Rattle.base.specs.common.Binary64.{zero, one, minus_one}
use Rattle.base.specs.numbers.Numbers.{EMPTY}
use Rattle.plane.specs.points.Plane.{at}
use Rattle.plane.specs.declared.points.Point.{Point}
use Rattle.plane.specs.declared.boxes.BoundingBox.{BoundingBox}
use Rattle.cutting.specs.cuts.Cut.{Side}
use Rattle.cutting.specs.declared.corner.SideName.{SideName}
use Rattle.cutting.specs.declared.corner.SideName.TheVariants.{Left, Top, Right, Bottom}
use Rattle.cutting.specs.declared.corner.Corner.{Corner}
use Rattle.cutting.specs.declared.corner.Carrier.{Carrier}
use Rattle.cutting.specs.declared.corner.Carrier.TheVariants.{Bisector, Along, Infinity}

abbrev pub coordinate : BoundingBox → SideName → Float
coordinate b Left = b.left
coordinate b Top = b.top
coordinate b Right = b.right
coordinate b Bottom = b.bottom

-- the place on a side, t along it
abbrev pub on_side : BoundingBox → SideName → Float → Point
on_side b Left t = at b.left t
on_side b Top t = at t b.top
on_side b Right t = at b.right t
on_side b Bottom t = at t b.bottom

-- within a side to the left or at the top, and to the right or at the bottom: by the direction across it, or where that is along the side, by the place
abbrev pub past_low : Bool → Float → Float → Float → Bool
past_low true d c x = cond (lt d zero) false (cond (lt zero d) true (le c x))
past_low false d c x = le c x

abbrev pub past_high : Bool → Float → Float → Float → Bool
past_high true d c x = cond (lt zero d) false (cond (lt d zero) true (le x c))
past_high false d c x = le x c

abbrev pub within_of : BoundingBox → SideName → Corner → Bool
within_of b Left p = past_low p.far p.toward.x b.left p.place.x
within_of b Top p = past_low p.far p.toward.y b.top p.place.y
within_of b Right p = past_high p.far p.toward.x b.right p.place.x
within_of b Bottom p = past_high p.far p.toward.y b.bottom p.place.y

-- the center of the circle of triangle t, and a place that is none
abbrev pub circle_center : Point → ℕ → Corner
circle_center p t = record { place = p; far = false; toward = at zero zero; number = t }

abbrev pub near : Point → Corner
near p = circle_center p EMPTY

-- the end in direction d of a line through p, and of a side
abbrev pub far_at : Point → Point → Corner
far_at p d = record { place = p; far = true; toward = d; number = EMPTY }

abbrev pub far_end : BoundingBox → SideName → Point → Corner
far_end b s d = far_at (on_side b s zero) d

-- where the line at infinity crosses a side: the left and the right side at the lower end, the top and the bottom at the right end. Past the left side nothing is left of it but its
-- right half, so it crosses the later sides nowhere else
abbrev pub line_toward : SideName → Point
line_toward Left = at zero one
line_toward Top = at one zero
line_toward Right = at zero one
line_toward Bottom = at one zero

abbrev pub line_end : BoundingBox → SideName → Corner
line_end b s = far_end b s (line_toward s)

-- the upper end of the left side, where turns are counted
abbrev pub upper_end : BoundingBox → Corner
upper_end b = far_end b Left (at zero minus_one)

-- where an earlier carrier crosses a side in one corner: another side at the box's corner; a bisector has none
abbrev pub corner_of : BoundingBox → SideName → Carrier → Corner
corner_of b s (Bisector i j) = near (on_side b s zero)
corner_of b s (Along o) = near (on_side b s (coordinate b o))
corner_of b s Infinity = line_end b s

-- how far along a side a bisector crosses it, seen from both ends of the edge; and whether the line at infinity, from one corner to the next, passes the upper end of the left side
-- and not its lower end. Any two functions will do here, the first the same both ways
pub record Crossings : Type 0 where
  pub cross : SideName → ℕ → ℕ → Corner → Corner → Float
  pub upward : Corner → Corner → Bool

abbrev pub meet_of : BoundingBox → Crossings → SideName → Corner → Corner → Carrier → Corner
meet_of b x s p q (Bisector i j) = near (on_side b s (x.cross s i j p q))
meet_of b x s p q (Along o) = corner_of b s (Along o)
meet_of b x Left p q Infinity = cond (x.upward p q) (upper_end b) (corner_of b Left Infinity)
meet_of b x Top p q Infinity = corner_of b Top Infinity
meet_of b x Right p q Infinity = corner_of b Right Infinity
meet_of b x Bottom p q Infinity = corner_of b Bottom Infinity

abbrev pub side_of : BoundingBox → Crossings → SideName → Side Corner Carrier
side_of b x s = record { within = within_of b s; meet = meet_of b x s; along = Along s }
