-- A triangle of a ring, and the limit as a long number.
use Rattle.std.specs.Prelude.{◌≡◌, refl, Bool, true, false, ◌||◌, List, [], ◌∷◌, map, ℕ, zero, suc, ◌+◌, ◌-◌, ◌*◌, ◌/◌, ◌^◌, ◌≤◌, ◌<◌, Float, length, get_or, replicate}
use Rattle.std.proofs.Math.Path.{ap}
use Rattle.std.proofs.Common.{◌∙◌, arith, lit≤}
use Prim.{tt}
use Rattle.std.proofs.Math.Dec.{ltb}
use Rattle.plane.specs.points.Finite.{BoundedPoint}
use Rattle.plane.specs.points.Flat.{point_at}
use Rattle.ring_area.specs.long.Amount.{amount}
use Rattle.ring_area.specs.Steps.{Corners, RingIn, SumFits, gains_of, losses_of}
use Rattle.ring_area.specs.laws.Bounds.{ring_gains, ring_losses}
use Rattle.ring_area.specs.laws.Settles.{summed, total_is}
use Rattle.ring_area.specs.limits.Long.{LongOf}
use Rattle.ring_area.specs.limits.laws.Limits.{limit_exact}
use Rattle.ring_area.specs.lowest.Lowest.{lowest}
use Rattle.ring_area.specs.lowest.laws.Loops.{NoneTo, passed_start, passed_step, passed_found, passed_end, passed_yes, passed_no}
use Rattle.walks.specs.shared.Cells.{cell_of}
use Rattle.auditing.specs.rings.Fan.{triangle_of, turns_over, folds_at, ring_folds, site_folds}

-- three corners of a ring
pub three_corners : {v : List Float} {cell : List ℕ} → Corners v cell → (i j k : ℕ) → i < length cell → j < length cell → k < length cell
    → Corners v (get_or cell i 0 ∷ get_or cell j 0 ∷ get_or cell k 0 ∷ [])
three_corners {v} {cell} c i j k a b d = record { few = lit≤ tt; named = named; bounded = bounded }
  where
    ring : List ℕ
    ring = get_or cell i 0 ∷ get_or cell j 0 ∷ get_or cell k 0 ∷ []

    named : (n : ℕ) → n < 3 → 2 * get_or ring n 0 + 1 < length v
    named zero g = c.named i a
    named (suc zero) g = c.named j b
    named (suc (suc zero)) g = c.named k d
    named (suc (suc (suc n))) g = absurd (omega arith)

    bounded : (n : ℕ) → n < 3 → BoundedPoint 400 (point_at v (get_or ring n 0))
    bounded zero g = c.bounded i a
    bounded (suc zero) g = c.bounded j b
    bounded (suc (suc zero)) g = c.bounded k d
    bounded (suc (suc (suc n))) g = absurd (omega arith)

-- the sums of three sides from nothing
module _ {v : List Float} {ring p m : List ℕ} (c : Corners v ring) (r : RingIn v ring (replicate 94 0) p (replicate 94 0) m) where
  pub ring_fits : SumFits m × SumFits p
  ring_fits = (summed (length ring) c.few (ring_losses v ring c) r.taken, summed (length ring) c.few (ring_gains v ring c) r.added)

  pub turned : (l : List ℕ) {o : List ℕ} {t : Bool} → LongOf o (amount m - amount p) → t ≡ ltb (amount l) (amount o) → (box bits : ℕ) → amount l ≡ box / 2 ^ bits
      → t ≡ turns_over box bits (map (point_at v) ring)
  unfolding turns_over
  turned l {o} {t} d e box bits q =
      e
      ∙ ap (λ (x : ℕ). ltb x (amount o)) q
      ∙ ap (λ (x : ℕ). ltb (box / 2 ^ bits) x)
      (d.value ∙ ap (λ (x : ℕ). x - amount p) (total_is r.taken) ∙ ap (λ (x : ℕ). losses_of (map (point_at v) ring) - x) (total_is r.added))
      ∙ limit_exact box bits (losses_of (map (point_at v) ring) - gains_of (map (point_at v) ring))

-- both triangles
pub either_is : (box bits : ℕ) (v : List Float) (cell : List ℕ) (k : ℕ) {x y : Bool}
    → x ≡ turns_over box bits (triangle_of v (get_or cell 0 0) (get_or cell (k + 1) 0) (get_or cell (k + 2) 0))
    → y ≡ turns_over box bits (triangle_of v (get_or cell 0 0) (get_or cell 1 0) (get_or cell (k + 2) 0)) → (x || y) ≡ folds_at box bits v cell k
unfolding folds_at
either_is box bits v cell k e f = rw (e, f) refl
