-- The public line and ray: the box's refusal, then a coordinate's on each point, else what is met.
use Rattle.std.specs.Prelude.{Bool, ◌&&◌, List, [], ◌∷◌, ℕ, Result, Ok, Err, Float}
use Rattle.base.specs.common.Pick.{pick}
use Rattle.base.specs.common.Binary64.{zero}
use Rattle.base.specs.declared.refusal.Refusal.{Refusal}
use Rattle.base.specs.declared.refusal.Refusal.TheVariants.{Box, Coordinate}
use Rattle.plane.specs.points.Rules.{ok_site}
use Rattle.plane.specs.declared.points.Point.{Point}
use Rattle.plane.specs.declared.given.Given.{Given}
use Rattle.plane.specs.rays.Ray.{ray_of}
use Rattle.plane.specs.lines.Line.{line_of}
use Rattle.plane.specs.declared.lines.Crossing.{Crossing}
use Rattle.plane.specs.declared.lines.Crossing.TheVariants.{None, One, Two}

unfoldable pub met_by : Bool → Bool → Crossing → Result Crossing Refusal
met_by box points c = pick box (λ _. pick points (λ _. Ok c) (λ _. Err Coordinate)) (λ _. Err Box)

unfoldable pub line_answer : Given → Point → Point → Result Crossing Refusal
line_answer g p q = met_by g.sound (ok_site p && ok_site q) (line_of g.bounds p q)

unfoldable pub ray_answer : Given → Point → Point → Result Crossing Refusal
ray_answer g p dir = met_by g.sound (ok_site p && ok_site dir) (ray_of g.bounds p dir)

-- the points of an answer: of a refusal none
abbrev pub points_of : Result Crossing Refusal → Crossing
points_of (Err r) = None
points_of (Ok c) = c

-- the outcome as numbers: how many points, and four coordinates, zeros where there is none
abbrev pub count_of : Crossing → ℕ
count_of None = 0
count_of (One x y) = 1
count_of (Two x y u v) = 2

abbrev pub values_of : Crossing → List Float
values_of None = zero ∷ zero ∷ zero ∷ zero ∷ []
values_of (One x y) = x ∷ y ∷ zero ∷ zero ∷ []
values_of (Two x y u v) = x ∷ y ∷ u ∷ v ∷ []
