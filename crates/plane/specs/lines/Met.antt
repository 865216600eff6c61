-- A line by the sides that it meets, test by test: what the code asks in its order.
use Rattle.std.specs.Prelude.{Bool, ◌&&◌, Float}
use Rattle.std.specs.Float.Ieee.{lt, le}
use Rattle.root.specs.Root.{magnitude}
use Rattle.base.specs.common.Pick.{pick}
use Rattle.base.specs.numbers.Numbers.{tolerance}
use Rattle.plane.specs.declared.boxes.BoundingBox.{BoundingBox}
use Rattle.plane.specs.lines.Line.{one_if, or_of, join_of}
use Rattle.plane.specs.declared.lines.Crossing.{Crossing}
use Rattle.plane.specs.declared.lines.Crossing.TheVariants.{Two}

-- the right or the left side is met at height y, the top or the bottom at x
abbrev pub side_met : BoundingBox → Float → Float → Bool
side_met b cx y = lt tolerance (magnitude cx) && (le b.top y && le y b.bottom)

abbrev pub level_met : BoundingBox → Float → Float → Bool
level_met b cy x = lt tolerance (magnitude cy) && (le x b.right && le b.left x)

-- parallel to y
abbrev pub upright_by : Float → Float → Bool
upright_by cx cy = lt tolerance (magnitude cy) && lt (magnitude cx) tolerance

-- a point of a side, then one of the top or the bottom
abbrev pub each_of : Bool → Float → Float → Bool → Float → Float → Crossing
each_of s x y l u v = join_of (one_if s x y) (one_if l u v)

-- not both sides: right at y if f, left at z if g; the top's line at t, the bottom's at m
unfoldable pub levels_of : BoundingBox → Bool → Bool → Float → Float → Float → Float → Float → Crossing
levels_of b f g y z cy t m =
    pick (level_met b cy t && level_met b cy m)
    (λ _. Two t b.top m b.bottom)
    (λ _. join_of (or_of (one_if f b.right y) (one_if g b.left z)) (or_of (one_if (level_met b cy t) t b.top) (one_if (level_met b cy m) m b.bottom)))
