-- The centroid, with the source's operations in its order, and its refusals: the count, then a coordinate.
use Rattle.std.specs.Prelude.{Bool, ◌&&◌, List, ℕ, zero, suc, ◌*◌, ◌/◌, eqb, leb, ltb, pos, length, Result, Ok, Err, Float}
use Rattle.std.specs.Float.{binary64}
use Rattle.std.specs.Float.Ieee.{of_int}
use Rattle.base.specs.common.Binary64 as R
use Rattle.base.specs.common.Binary64.{◌⊞◌, ◌⊘◌}
use Rattle.base.specs.common.Pick.{pick}
use Rattle.base.specs.declared.refusal.Refusal.{Refusal}
use Rattle.base.specs.declared.refusal.Refusal.TheVariants.{Count, Coordinate}
use Rattle.plane.specs.points.Plane.{at}
use Rattle.plane.specs.points.Flat.{point_at}
use Rattle.plane.specs.points.Sites.{ok_sites}
use Rattle.plane.specs.declared.points.Point.{Point}

-- the first n points added up, one after the other
unfoldable pub point_sum : List Float → ℕ → Point
point_sum l zero = at R.zero R.zero
point_sum l (suc n) = at ((point_sum l n).x ⊞ (point_at l n).x) ((point_sum l n).y ⊞ (point_at l n).y)

unfoldable pub mean_of : List Float → ℕ → Point
mean_of l n = at ((point_sum l n).x ⊘ of_int binary64 (pos n)) ((point_sum l n).y ⊘ of_int binary64 (pos n))

-- whole points, 1 to 65,536 of them
unfoldable pub ok_count : List Float → Bool
ok_count l = eqb (length l) (2 * (length l / 2)) && (ltb 0 (length l / 2) && leb (length l / 2) 65536)

unfoldable pub centroid_answer : List Float → Result Point Refusal
centroid_answer l =
    pick (ok_count l) (λ _. pick (ok_sites (length l / 2) l) (λ _. Ok (mean_of l (length l / 2))) (λ _. Err Coordinate)) (λ _. Err Count)
