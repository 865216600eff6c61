-- A list of points kept in a list of numbers, x and y in turn.
use Rattle.std.specs.Prelude.{ℕ, zero, suc, ◌+◌, ◌*◌, List, [], ◌∷◌, ◌++◌, length, get_or, drop, Float}
use Rattle.std.specs.Float.{nan}
use Rattle.plane.specs.declared.points.Point.{Point}
use Rattle.plane.specs.points.Plane.{at}

-- the point that stands at place i
abbrev pub point_at : List Float → ℕ → Point
point_at l i = at (get_or l (2 * i) nan) (get_or l (2 * i + 1) nan)

-- k points from place i on
unfoldable pub points_from : List Float → ℕ → ℕ → List Point
points_from l i zero = []
points_from l i (suc k) = point_at l i ∷ points_from l (suc i) k

-- the first n points
abbrev pub points : ℕ → List Float → List Point
points n l = points_from l 0 n

unfoldable pub flat : List Point → List Float
flat [] = []
flat (p ∷ ps) = p.x ∷ p.y ∷ flat ps

-- l with the points ps written over its beginning
unfoldable pub pour : List Point → List Float → List Float
unfolding flat
pour ps l = flat ps ++ drop (2 * length ps) l
