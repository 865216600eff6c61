-- The tolerance test and the squared distance.
use Rattle.std.specs.Prelude.{Bool, cond, Float}
use Rattle.std.specs.Float.Ieee.{lt, le}
use Rattle.base.specs.common.Binary64.{◌⊞◌, ◌⊟◌, ◌⊠◌}
use Rattle.base.specs.numbers.Numbers.{tolerance}
use Rattle.plane.specs.declared.points.Point.{Point}

abbrev pub at : Float → Float → Point
at x y = record { x = x; y = y }

-- within 2^-50, by the computed difference
unfoldable pub near_of : Float → Float → Bool
near_of a b = le (cond (lt b a) (a ⊟ b) (b ⊟ a)) tolerance

unfoldable pub dist2_of : Point → Point → Float
dist2_of a b = (a.x ⊟ b.x) ⊠ (a.x ⊟ b.x) ⊞ (a.y ⊟ b.y) ⊠ (a.y ⊟ b.y)
