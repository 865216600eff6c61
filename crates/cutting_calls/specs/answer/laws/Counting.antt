-- What counts sides, less the same sides back, is a form of sides (`count_form`); its sum over the pieces is what a certificate's sums are over the rings (`cells_sum`).
use Rattle.std.specs.Prelude.{◌≡◌, refl, Bool, true, false, ◌||◌, ◌⊎◌, Float}
use Rattle.std.proofs.Math.Path.{sym}
use Rattle.std.proofs.lemmas.Bool.{false≢true}
use mathlib.Core.List.{List, [], ◌∷◌, map}
use Rattle.std.proofs.Common.{⊎_elim, arith}
use Prim.Native.Nat.{ℕ, zero, suc}
use Rattle.plane.specs.points.Flat.{point_at}
use Rattle.plane.specs.declared.points.Point.{Point}
use Rattle.plane.specs.declared.boxes.BoundingBox.{BoundingBox}
use Rattle.walks.specs.shared.Cells.{cell_of}
use Rattle.cutting.specs.cuts.Numbers.{Balance, ◌∸◌, ◌≈◌}
use Rattle.cutting.specs.cuts.Rings.{sum_by}
use Rattle.cutting.specs.cuts.Written.{chain_to, round}
use Rattle.cutting.specs.pen.Pen.{same_place}
use Rattle.cutting.specs.declared.corner.SideName.{SideName}
use Rattle.cutting.specs.sides.Area.{OnSide, SideForm}
use Rattle.cutting_laws.specs.theorem.MeshPieces.{numbers_from}
use Rattle.certifying.specs.cover.Sums.{WholePlace, OfSide, sum_from, sum_ring, sum_all}
use Rattle.certifying.specs.truth.Places.{corner_places, rings_from}

-- g of a side, less g of the side back
abbrev pub net_count : (Point → Point → ℕ) → Point → Point → Balance
net_count g p q = record { plus = g p q; minus = g q p }

-- g does not tell places apart that are equal as floats
abbrev pub Respects : (Point → Point → ℕ) → Type 0
Respects g = (p q : Point) → same_place p q ≡ true → (z : Point) → (g p z ≡ g q z) × (g z p ≡ g z q)

abbrev pub count_form : (b : BoundingBox) (g : Point → Point → ℕ) (rise : SideName → Point → Balance) → Respects g
    → ((s : SideName) (p q : Point) → OnSide b s p → OnSide b s q → net_count g p q ≈ rise s q ∸ rise s p) → SideForm b
count_form b g rise respects straight = record {
  of = net_count g;
  rise = rise;
  signed = λ p q. omega arith;
  alike = λ p q h z. let e = respects p q h z in (omega (arith, e.0, e.1), omega (arith, e.0, e.1));
  straight = straight;
}

-- ---- one of four edges
pub one_true : (u v w z : Bool) → (u ≡ true) ⊎ (v ≡ true) ⊎ (w ≡ true) ⊎ (z ≡ true) → (u || v || w || z) ≡ true
one_true true v w z h = refl
one_true false true w z h = refl
one_true false false true z h = refl
one_true false false false true h = refl
one_true false false false false h = absurd (⊎_elim false≢true (⊎_elim false≢true (⊎_elim false≢true false≢true)) h)

-- ---- over cells: `at` and f are places and sides as a certificate has them
module _ (g : Point → Point → ℕ) (v : List Float) (at : ℕ → WholePlace) (f : OfSide) (agree : (a d : ℕ) → f (at a) (at d) ≡ g (point_at v a) (point_at v d)) where
  chain_sum : (a p : ℕ) (r : List ℕ) → ((chain_to (net_count g) (point_at v a) (point_at v p) (map (point_at v) r)).plus ≡ sum_from f (at a) (at p) (corner_places at r))
      × ((chain_to (net_count g) (point_at v a) (point_at v p) (map (point_at v) r)).minus ≡ sum_from (λ d e. f e d) (at a) (at p) (corner_places at r))
  unfolding sum_from corner_places
  chain_sum a p [] = (sym (agree p a), sym (agree a p))
  chain_sum a p (q ∷ r) = let i = chain_sum a q r in (omega (arith, agree p q, i.0), omega (arith, agree q p, i.1))

  ring_sum : (cell : List ℕ) → ((round (net_count g) (map (point_at v) cell)).plus ≡ sum_ring f (corner_places at cell))
      × ((round (net_count g) (map (point_at v) cell)).minus ≡ sum_ring (λ d e. f e d) (corner_places at cell))
  unfolding sum_ring corner_places
  ring_sum [] = (refl, refl)
  ring_sum (e ∷ r) = chain_sum e e r

  pub cells_sum : (off ix : List ℕ) (j k : ℕ) → ((sum_by (round (net_count g)) (map (λ s. map (point_at v) (cell_of off ix s)) (numbers_from j k))).plus ≡ sum_all f (rings_from at off ix j k))
      × ((sum_by (round (net_count g)) (map (λ s. map (point_at v) (cell_of off ix s)) (numbers_from j k))).minus ≡ sum_all (λ d e. f e d) (rings_from at off ix j k))
  unfolding sum_all rings_from
  cells_sum off ix j zero = (refl, refl)
  cells_sum off ix j (suc k) =
      let r = ring_sum (cell_of off ix j) in
      let i = cells_sum off ix (suc j) k in
      (omega (arith, r.0, i.0), omega (arith, r.1, i.1))
