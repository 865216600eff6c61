-- The area of a ring, by its sums; without corners it is 0.
use Rattle.std.specs.Prelude.{◌≡◌, refl, List, [], ◌∷◌, map, ℕ, Float, length}
use Rattle.std.proofs.Common.{arith}
use Rattle.base.specs.common.Binary64.{zero}
use Rattle.plane.specs.points.Flat.{point_at}
use Rattle.ring_area.specs.Area.{rounded_half, area, ring_area}
use Rattle.ring_area.specs.Steps.{gains_of, losses_of}

pub no_corners : (v : List Float) (cell : List ℕ) → length cell ≡ 0 → zero ≡ ring_area v cell
unfolding area
no_corners v [] h = refl
no_corners v (x ∷ r) h = absurd (omega arith)

pub ring_is : (v : List Float) (cell : List ℕ) → (length cell ≡ 0 → ⊥) → rounded_half (gains_of (map (point_at v) cell)) (losses_of (map (point_at v) cell)) ≡ ring_area v cell
unfolding area
ring_is v [] h = absurd (h refl)
ring_is v (x ∷ r) h = refl
