-- The centroid: one point more, and each way to its answer.
use Rattle.std.specs.Prelude.{◌≡◌, true, false, List, ◌≢◌, ℕ, ◌+◌, ◌*◌, ◌/◌, ◌≤◌, ◌<◌, length, get_or, Ok, Err, Float}
use Rattle.std.proofs.Common.{sym, ap, ◌∙◌, add-one, arith}
use borrow.Author.Tests.{eq-eqb, ne_eqb, lt-ltb, le-ltb, le-leb, lt-leb}
use Rattle.std.specs.Float.{nan}
use Rattle.base.specs.common.Binary64.{◌⊞◌}
use Rattle.base.specs.declared.refusal.Refusal.TheVariants.{Count, Coordinate}
use Rattle.plane.specs.points.Plane.{at}
use Rattle.plane.specs.points.Flat.{point_at}
use Rattle.plane.specs.points.Sites.{ok_sites}
use Rattle.plane.specs.declared.points.Point.{Point}
use Rattle.plane.specs.centers.Centroid.{point_sum, mean_of, ok_count, centroid_answer}

-- one point more, at the code's i + 1
pub sum_more : (l : List Float) (i : ℕ) {x y : Float} → at x y ≡ point_sum l i → at (x ⊞ get_or l (2 * i) nan) (y ⊞ get_or l (2 * i + 1) nan) ≡ point_sum l (i + 1)
unfolding point_sum
sum_more l i h = ap (λ (p : Point). at (p.x ⊞ (point_at l i).x) (p.y ⊞ (point_at l i).y)) h ∙ ap (point_sum l) (sym (add-one i))

-- ---- each way to an answer
module _ (l : List Float) where
  pub odd_length : length l ≢ 2 * (length l / 2) → centroid_answer l ≡ Err Count
  unfolding centroid_answer ok_count
  odd_length h = simp (ne_eqb (length l) (2 * (length l / 2)) h)

  module _ (even : length l ≡ 2 * (length l / 2)) where
    pub no_points : length l / 2 ≡ 0 → centroid_answer l ≡ Err Count
    unfolding centroid_answer ok_count
    no_points h = rw (eq-eqb (length l) (2 * (length l / 2)) even, le-ltb 0 (length l / 2) (omega arith))

    module _ (some : length l / 2 ≢ 0) where
      pub too_many : 65536 < length l / 2 → centroid_answer l ≡ Err Count
      unfolding centroid_answer ok_count
      too_many h = rw (eq-eqb (length l) (2 * (length l / 2)) even, lt-ltb 0 (length l / 2) (omega arith), lt-leb (length l / 2) 65536 h)

      module _ (few : length l / 2 ≤ 65536) where
        counted : ok_count l ≡ true
        unfolding ok_count
        counted = rw (eq-eqb (length l) (2 * (length l / 2)) even, lt-ltb 0 (length l / 2) (omega arith), le-leb (length l / 2) 65536 few)

        pub broken_site : ok_sites (length l / 2) l ≡ false → centroid_answer l ≡ Err Coordinate
        unfolding centroid_answer
        broken_site h = rw (counted, h)

        pub sound : ok_sites (length l / 2) l ≡ true → centroid_answer l ≡ Ok (mean_of l (length l / 2))
        unfolding centroid_answer
        sound h = rw (counted, h)
