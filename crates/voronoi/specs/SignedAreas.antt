-- Theorem: after 0 of voronoi_areas each area has the sign of the exact one: at most 2^-1075 in magnitude it is 0, with the sign of the sum, and else above or below 0 as
-- the exact one is (`SignTrue` of crate area_laws, in units of 2^-2149).
use Rattle.std.specs.Prelude.{◌≡◌, refl, List, map, ℕ, zero, suc, ◌+◌, ◌-◌, ◌<◌, Float, length, get_or}
use Rattle.std.proofs.Common.{sym, ap, ◌∙◌, subst, arith, rules}
use Rattle.std.specs.Float.{nan}
use Rattle.base.specs.common.laws.Refusals.{finds_keep}
use Rattle.plane.specs.points.Flat.{point_at}
use Rattle.walks.specs.shared.Cells.{cell_of}
use Rattle.ring_area.specs.Area.{ring_area}
use Rattle.ring_area.specs.Steps.{gains_of, losses_of}
use Rattle.area_laws.specs.AreaSign.{SignTrue, ring_signed}
use Rattle.areas.specs.Promise.{area_at, listed, areas_after}
use Rattle.areas.specs.laws.Answers.{admitted}
use Rattle.areas.specs.laws.Entries.{cell_corners}
use Rattle.areas.specs.laws.Writes.{of_cell}
use Rattle.voronoi.specs.Sizes.{Areas}

entry_at : (f : ℕ → Float) (i n k : ℕ) → k < n → get_or (listed f i n) k nan ≡ f (i + k)
unfolding listed
entry_at f i zero k h = absurd (omega arith)
entry_at f i (suc n) zero h = let q : i + 0 ≡ i = omega arith in rw q
entry_at f i (suc n) (suc k) h = let q : i + suc k ≡ suc i + k = omega arith in rw q (entry_at f (suc i) n k (omega arith))

-- the area of cell s, which there is one of for each offset but the last
pub signed_areas : (v : List Float) (off ix : List ℕ) {old new : List Float} → Areas v off ix old new 0 → (s : ℕ) → s < length off - 1
    → SignTrue (gains_of (map (point_at v) (cell_of off ix s))) (losses_of (map (point_at v) (cell_of off ix s))) (get_or new s nan)
unfolding areas_after
signed_areas v off ix {old} {new} a s h =
    let room = (finds_keep (λ r. r ≡ 0) (search rules) refl a.number.found).1.1.1.1.1.0 in
    let from-none : 0 + s ≡ s = omega arith in
    let listed-there = entry_at (area_at v off ix) 0 (length old) s (omega (arith, room)) ∙ ap (area_at v off ix) from-none in
    let at : get_or new s nan ≡ area_at v off ix s = ap (λ (l : List Float). get_or l s nan) a.areas ∙ listed-there in
    let is : ring_area v (cell_of off ix s) ≡ get_or new s nan = of_cell v off ix s (length off - 1) refl (cell_of off ix s) h refl ∙ sym at in
    subst (λ (x : Float). SignTrue (gains_of (map (point_at v) (cell_of off ix s))) (losses_of (map (point_at v) (cell_of off ix s))) x) is
    (ring_signed v (cell_of off ix s) (cell_corners (admitted a.number refl) s (omega arith)))
