-- A sum over the sides of all rings is a sum over the list of all sides; the ring of a site, and the corners of a ring.
use Rattle.std.specs.Prelude.{◌≡◌, drop}
use Rattle.std.proofs.Math.Path.{refl, sym, ap, subst}
use Rattle.std.proofs.Common.{◌∙◌}
use mathlib.Core.List.{List, [], ◌∷◌, ◌++◌}
use Prim.{tt}
use Prim.Native.Nat.{ℕ, zero, suc, ◌+◌, ◌-◌, ◌≤◌, ◌<◌}
use native.Mathlib.Omega.{arith}
use Rattle.std.proofs.Math.ListN.{length, get_or, get_or-append}
use Rattle.std.proofs.Math.Seq.{get_or-append-add, get_or-take, get_or-drop}
use Rattle.base.specs.common.Count.{sum_to}
use Rattle.base.specs.common.laws.Count.{sum_same}
use Rattle.walks.specs.shared.Cells.{Cells, cell_of}
use Rattle.certifying.specs.cover.Sums.{WholePlace, OfSide, sum_from, sum_ring, sum_all, EveryCorner}
use Rattle.certifying.specs.sides.Sides.{ring_ends, ends_from, ends_of, side_count}
use Rattle.certifying.specs.sides.laws.Ends.{cell_long, ring_long, rises}
use Rattle.certifying.specs.truth.Places.{corner_places, rings_from}

-- ---- sums of numbers
sum_front : (u : ℕ → ℕ) (n : ℕ) → sum_to u (suc n) ≡ u 0 + sum_to (λ k. u (suc k)) n
sum_front u zero = plain (u 0)
  where
    plain : (a : ℕ) → 0 + a ≡ a + 0
    plain a = omega arith
sum_front u (suc n) = plain _ _ _ _ (sum_front u n)
  where
    plain : (a b c d : ℕ) → a ≡ b + c → a + d ≡ b + (c + d)
    plain a b c d e = omega arith

sum_split : (u : ℕ → ℕ) (a b : ℕ) → sum_to u (a + b) ≡ sum_to u a + sum_to (λ k. u (a + k)) b
sum_split u a zero = let q : a + 0 ≡ a = omega arith in rw q (plain (sum_to u a))
  where
    plain : (n : ℕ) → n ≡ n + 0
    plain n = omega arith
sum_split u a (suc b) = let q : a + suc b ≡ suc (a + b) = omega arith in rw q (plain _ _ _ _ (sum_split u a b))
  where
    plain : (s t v w : ℕ) → s ≡ t + v → s + w ≡ t + (v + w)
    plain s t v w e = omega arith

module _ (at : ℕ → WholePlace) (f : OfSide) where
  -- ---- one ring
  from_sum : (e p : ℕ) (r : List ℕ) → sum_from f (at e) (at p) (corner_places at r) ≡ sum_to (λ i. f (at (get_or (p ∷ r) i 0)) (at (get_or (r ++ e ∷ []) i 0))) (suc (length r))
  unfolding sum_from corner_places
  from_sum e p [] = plain (f (at p) (at e))
    where
      plain : (n : ℕ) → n ≡ 0 + n
      plain n = omega arith
  from_sum e p (q ∷ r) =
      ap (λ (n : ℕ). f (at p) (at q) + n) (from_sum e q r)
      ∙ sym (sum_front (λ i. f (at (get_or (p ∷ q ∷ r) i 0)) (at (get_or ((q ∷ r) ++ e ∷ []) i 0))) (suc (length r)))

  ring_sum : (c : List ℕ) → sum_ring f (corner_places at c) ≡ sum_to (λ i. f (at (get_or c i 0)) (at (get_or (ring_ends c) i 0))) (length c)
  unfolding sum_ring corner_places ring_ends
  ring_sum [] = refl
  ring_sum (e ∷ r) = from_sum e e r

  -- ---- all rings
  module _ (off ix : List ℕ) (cut : Cells off (length ix)) where
    cell_entry : (j i : ℕ) → j + 1 < length off → i < length (cell_of off ix j) → get_or (cell_of off ix j) i 0 ≡ get_or ix (get_or off j 0 + i) 0
    unfolding cell_of
    cell_entry j i h g =
        get_or-take (get_or off (j + 1) 0 - get_or off j 0) (drop (get_or off j 0) ix) i 0 (omega (arith, cell_long off ix cut j h))
        ∙ get_or-drop (get_or off j 0) ix i 0

    -- side i of the rings of n sites from j on
    abbrev side_from : ℕ → ℕ → ℕ → ℕ
    side_from j n i = f (at (get_or ix (get_or off j 0 + i) 0)) (at (get_or (ends_from off ix j n) i 0))

    of_first : (n j i : ℕ) → j + 1 < length off → i < length (cell_of off ix j)
        → f (at (get_or (cell_of off ix j) i 0)) (at (get_or (ring_ends (cell_of off ix j)) i 0)) ≡ side_from j (suc n) i
    unfolding ends_from
    of_first n j i h g =
        rw (cell_entry j i h g, get_or-append (ring_ends (cell_of off ix j)) (ends_from off ix (suc j) n) 0 i (omega (arith, ring_long (cell_of off ix j)))) refl

    of_later : (n j i : ℕ) → j + 1 < length off → side_from (suc j) n i ≡ side_from j (suc n) (length (cell_of off ix j) + i)
    unfolding ends_from
    of_later n j i h =
        let c = cell_of off ix j in
        let u : suc j ≡ j + 1 = omega arith in
        let l = cell_long off ix cut j h in
        let q : get_or off (suc j) 0 + i ≡ get_or off j 0 + (length c + i) = rw u (omega (arith, cut.rising j h)) in
        let k : get_or (ends_from off ix (suc j) n) i 0 ≡ get_or (ring_ends c ++ ends_from off ix (suc j) n) (length c + i) 0 =
        sym (ap (λ (m : ℕ). get_or (ring_ends c ++ ends_from off ix (suc j) n) (m + i) 0) (sym (ring_long c)) ∙ get_or-append-add (ring_ends c) (ends_from off ix (suc j) n) i 0) in
        ap (λ (m : ℕ). f (at (get_or ix m 0)) (at (get_or (ends_from off ix (suc j) n) i 0))) q ∙ ap (λ (m : ℕ). f (at (get_or ix (get_or off j 0 + (length c + i)) 0)) (at m)) k

    abbrev SumOf : ℕ → ℕ → Type 0
    SumOf n j = sum_all f (rings_from at off ix j n) ≡ sum_to (side_from j n) (get_or off (j + n) 0 - get_or off j 0)

    one_more : (n j : ℕ) → j + suc n < length off → SumOf n (suc j) → SumOf (suc n) j
    unfolding sum_all rings_from
    one_more n j h r =
        let c = cell_of off ix j in
        let g : j + 1 < length off = omega arith in
        let u : suc j ≡ j + 1 = omega arith in
        let l = cell_long off ix cut j g in
        let m₁ = cut.rising j g in
        let m₂ : get_or off (j + 1) 0 ≤ get_or off (suc j + n) 0 = subst (λ (t : ℕ). get_or off t 0 ≤ get_or off (suc j + n) 0) u (rises off ix cut n (suc j) (omega arith)) in
        let q : j + suc n ≡ suc j + n = omega arith in
        let m : get_or off (suc j + n) 0 - get_or off j 0 ≡ length c + (get_or off (suc j + n) 0 - get_or off (suc j) 0) =
        plain _ _ _ _ _ (ap (λ (t : ℕ). get_or off t 0) u) l m₁ m₂ in
        rw (q, m) (ap (λ (k : ℕ). k + sum_all f (rings_from at off ix (suc j) n)) (ring_sum c ∙ sum_same _ _ (length c) (λ i b. of_first n j i g b))
        ∙ ap (λ (k : ℕ). sum_to (side_from j (suc n)) (length c) + k) (r ∙ sum_same _ _ (get_or off (suc j + n) 0 - get_or off (suc j) 0) (λ i b. of_later n j i g))
        ∙ sym (sum_split (side_from j (suc n)) (length c) (get_or off (suc j + n) 0 - get_or off (suc j) 0)))
      where
        plain : (a b b' d l : ℕ) → b' ≡ b → l ≡ b - a → a ≤ b → b ≤ d → d - a ≡ l + (d - b')
        plain a b b' d l e f g h = omega arith

    rings_sum : (n j : ℕ) → j + n < length off → SumOf n j
    unfolding sum_all rings_from
    rings_sum zero j h = let q : j + 0 ≡ j = omega arith in let z : get_or off j 0 - get_or off j 0 ≡ 0 = omega arith in rw (q, z) refl
    rings_sum (suc n) j h = one_more n j h (rings_sum n (suc j) (omega arith))

    -- a sum over the sides of all rings
    pub flat_sum : sum_all f (rings_from at off ix 0 (length off - 1)) ≡ sum_to (λ k. f (at (get_or ix k 0)) (at (get_or (ends_of off ix) k 0))) (side_count off)
    flat_sum =
        rings_sum (length off - 1) 0 (omega (arith, cut.some))
        ∙ ap (sum_to (side_from 0 (length off - 1))) (ap (λ (t : ℕ). get_or off t 0 - get_or off 0 0) (same (length off - 1)) ∙ none _ _ cut.start)
        ∙ sum_same _ _ (side_count off) (λ k h. let q : get_or off 0 0 + k ≡ k = omega (arith, cut.start) in rw q refl)
      where
        same : (n : ℕ) → 0 + n ≡ n
        same n = omega arith

        none : (a b : ℕ) → b ≡ 0 → a - b ≡ a
        none a b e = omega arith

-- ---- the ring of a site
module _ (at : ℕ → WholePlace) (off ix : List ℕ) where
  ring_from_lem : (n j s : ℕ) → s < n → get_or (rings_from at off ix j n) s [] ≡ corner_places at (cell_of off ix (j + s))
  unfolding rings_from
  ring_from_lem zero j s h = absurd (omega arith)
  ring_from_lem (suc n) j zero h = let q : j + 0 ≡ j = omega arith in rw q refl
  ring_from_lem (suc n) j (suc s) h = let q : j + suc s ≡ suc j + s = omega arith in rw q (ring_from_lem n (suc j) s (omega arith))

  pub ring_at : (n s : ℕ) → s < n → get_or (rings_from at off ix 0 n) s [] ≡ corner_places at (cell_of off ix s)
  ring_at n s h = ring_from_lem n 0 s h ∙ ap (λ (t : ℕ). corner_places at (cell_of off ix t)) (plain s)
    where
      plain : (s : ℕ) → 0 + s ≡ s
      plain s = omega arith

  pub rings_long : (n j : ℕ) → length (rings_from at off ix j n) ≡ n
  unfolding rings_from
  rings_long zero j = refl
  rings_long (suc n) j = ap suc (rings_long n (suc j))

-- ---- the corners of a ring
pub every_corner : (at : ℕ → WholePlace) (P : WholePlace → Type 0) (c : List ℕ) → ((i : ℕ) → i < length c → P (at (get_or c i 0))) → EveryCorner P (corner_places at c)
unfolding corner_places
every_corner at P [] h = tt
every_corner at P (e ∷ r) h = (h 0 (omega arith), every_corner at P r (λ i g. h (suc i) (omega arith)))
