-- Theorem: rule 11 keeps circumcenters finite, and rule 6 centroids.
use Rattle.std.specs.Prelude.{◌≡◌, true, false, List, ℕ, zero, suc, ◌+◌, ◌*◌, ◌^◌, ◌≤◌, ◌<◌, Float}
use Rattle.std.proofs.Common.{sym, subst, suc-mul, le_trans, lt_of_le_of_lt, arith, lit<, lit≤}
use Prim.{tt}
use Rattle.std.specs.Float.{binary64}
use Rattle.std.specs.Float.Ieee.{of_bits, of_int, le}
use Rattle.std.specs.Float.Ieee.Back.{round_whole}
use Rattle.root.specs.Root.{magnitude}
use Rattle.root.specs.Bounded.{Bounded}
use Rattle.root.specs.laws.Sizes.{AtMost, HeldFraction, whole_held, add_most, most_of_bounded, mean_bound}
use Rattle.root.specs.laws.Tested.{le_bound}
use Rattle.base.specs.common.laws.And.{and_left, and_right, holds}
use Rattle.base.specs.common.Binary64.{◌⊞◌}
use Rattle.base.specs.numbers.Numbers.{huge}
use Rattle.plane.specs.points.Flat.{point_at}
use Rattle.plane.specs.points.Sites.{KeptAt, ok_sites}
use Rattle.plane.specs.points.laws.Sites.{all_kept}
use Rattle.plane.specs.points.Finite.{BoundedPoint, site_bounded}
use Rattle.plane.specs.declared.points.Point.{Point}
use Rattle.plane.specs.centers.Circumcenter.{ok_center}
use Rattle.plane.specs.centers.Centroid.{point_sum, mean_of}

pub center_bounded : (p : Point) → ok_center p ≡ true → BoundedPoint 400 p
unfolding ok_center of_bits
center_bounded p e =
    let a = le (magnitude p.x) huge in
    let b = le (magnitude p.y) huge in
    record { x = le_bound p.x 400 (holds (and_left a b e)); y = le_bound p.y 400 (holds (and_right a b e)) }

-- ---- the centroid: a sum of n coordinates is at most n * 2 ^ 100, and their mean at most 2 ^ 100
sum_step : (n : ℕ) (s x : Float) → suc n ≤ 65536 → AtMost (n * 2 ^ 100) 0 s → Bounded 100 x → AtMost (suc n * 2 ^ 100) 0 (s ⊞ x)
sum_step n s x h a b =
    let e : suc n * 2 ^ 100 ≡ n * 2 ^ 100 + 2 ^ 100 = suc-mul n (2 ^ 100) in
    subst (λ (a : ℕ). AtMost a 0 (s ⊞ x)) (sym e)
    (add_most s x (n * 2 ^ 100) (2 ^ 100) 0 (subst (λ (a : ℕ). HeldFraction a 0) e (whole_held (suc n) 100 (lt_of_le_of_lt h (lit< tt)) (lit≤ tt))) a (most_of_bounded x 100 b))

abbrev Summed : ℕ → Point → Type 0
Summed n p = AtMost (n * 2 ^ 100) 0 p.x × AtMost (n * 2 ^ 100) 0 p.y

sum_bounded : (l : List Float) (n : ℕ) → n ≤ 65536 → ((k : ℕ) → k < n → KeptAt l k) → Summed n (point_sum l n)
unfolding point_sum of_bits
sum_bounded l zero h b = (lit≤ tt, lit≤ tt)
sum_bounded l (suc n) h b =
    let s = sum_bounded l n (omega arith) (λ k g. b k (omega arith)) in
    let p = site_bounded (point_at l n) (b n (omega arith)) in
    (sum_step n (point_sum l n).x (point_at l n).x h s.0 p.x, sum_step n (point_sum l n).y (point_at l n).y h s.1 p.y)

pub mean_bounded : (l : List Float) (n : ℕ) → 0 < n → n ≤ 65536 → ok_sites n l ≡ true → BoundedPoint 100 (mean_of l n)
unfolding mean_of of_int
mean_bounded l n h g e =
    let s = sum_bounded l n g (all_kept n l e) in
    let v = round_whole binary64 false n (le_trans g (lit≤ tt)) in
    record { x = mean_bound (point_sum l n).x _ n 100 (lit≤ tt) h s.0 v; y = mean_bound (point_sum l n).y _ n 100 (lit≤ tt) h s.1 v }
