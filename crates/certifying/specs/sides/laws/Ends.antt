-- Where sides end: of one ring, and in the list of all.
use Rattle.std.specs.Prelude.{◌≡◌, refl, List, [], ◌∷◌, drop}
use Rattle.std.proofs.Common.{sym, ap, ◌∙◌, length-drop, get_or-append-add}
use Rattle.std.proofs.Math.Path.{subst}
use Rattle.std.proofs.Math.Logic.{⊎_elim}
use Prim.Native.Nat.{ℕ, zero, suc, ◌+◌, ◌-◌, ◌≤◌, ◌<◌, min}
use native.Mathlib.Omega.{arith}
use Rattle.std.proofs.Math.ListN.{length, get_or, length-append, length-take, get_or-append}
use Rattle.base.specs.common.laws.Decide.{lt_or_ge}
use Rattle.walks.specs.shared.Cells.{Cells, cell_of}
use Rattle.arguments.specs.entries.Named.{EntriesNamed}
use Rattle.areas.specs.Promise.{entries_of_all}
use Rattle.areas.specs.laws.Entries.{cell_named}
use Rattle.certifying.specs.sides.Sides.{ring_ends, ends_from, ends_of, side_count}

-- ---- one ring
pub ring_long : (c : List ℕ) → length (ring_ends c) ≡ length c
unfolding ring_ends
ring_long [] = refl
ring_long (e ∷ r) = length-append r (e ∷ []) ∙ plain (length r)
  where
    plain : (n : ℕ) → n + 1 ≡ suc n
    plain n = omega arith

pub end_inner : (c : List ℕ) (i : ℕ) → i + 1 < length c → get_or c (i + 1) 0 ≡ get_or (ring_ends c) i 0
unfolding ring_ends
end_inner [] i h = absurd (omega arith)
end_inner (e ∷ r) i h = let q : i + 1 ≡ suc i = omega arith in rw q (sym (get_or-append r (e ∷ []) 0 i (omega arith)))

pub end_last : (c : List ℕ) (i : ℕ) → i < length c → length c ≤ i + 1 → get_or c 0 0 ≡ get_or (ring_ends c) i 0
unfolding ring_ends
end_last [] i h k = absurd (omega arith)
end_last (e ∷ r) i h k =
    let q : i ≡ length r + 0 = omega arith in
    rw q (sym (get_or-append-add r (e ∷ []) 0 0))

ends_named : (c : List ℕ) {n : ℕ} → EntriesNamed c n → (i : ℕ) → i < length c → get_or (ring_ends c) i 0 < n
ends_named c {n} a i h =
    ⊎_elim
    (λ k. subst (λ (e : ℕ). e < n) (end_inner c i k) (a.each (i + 1) k))
    (λ k. subst (λ (e : ℕ). e < n) (end_last c i h k) (a.each 0 (omega arith)))
    (lt_or_ge (i + 1) (length c))

-- ---- all rings
module _ (off ix : List ℕ) (cut : Cells off (length ix)) where
  pub cell_long : (s : ℕ) → s + 1 < length off → length (cell_of off ix s) ≡ get_or off (s + 1) 0 - get_or off s 0
  unfolding cell_of
  cell_long s h =
      length-take (get_or off (s + 1) 0 - get_or off s 0) (drop (get_or off s 0) ix)
      ∙ plain _ _ _ _ (length-drop (get_or off s 0) ix) (cut.within (s + 1) h) (cut.rising s h)
    where
      plain : (a b n d : ℕ) → d ≡ n - a → b ≤ n → a ≤ b → min (b - a) d ≡ b - a
      plain a b n d e h k = omega arith

  pub rises : (m k : ℕ) → k + m < length off → get_or off k 0 ≤ get_or off (k + m) 0
  rises zero k g = let q : k + 0 ≡ k = omega arith in rw q (omega arith)
  rises (suc m) k g =
      let q : k + suc m ≡ k + m + 1 = omega arith in
      rw q (omega (arith, rises m k (omega arith), cut.rising (k + m) (omega arith)))

  -- the rings of n sites from j on
  abbrev FromAt : ℕ → ℕ → ℕ → ℕ → Type 0
  FromAt n j s i = get_or (ends_from off ix j n) (get_or off s 0 - get_or off j 0 + i) 0 ≡ get_or (ring_ends (cell_of off ix s)) i 0

  at_first : (n j s i : ℕ) → s ≡ j → i < length (cell_of off ix s) → FromAt (suc n) j s i
  unfolding ends_from
  at_first n j s i q h =
      let z : get_or off j 0 - get_or off j 0 + i ≡ i = omega arith in
      let g : i < length (cell_of off ix j) = subst (λ (t : ℕ). i < length (cell_of off ix t)) q h in
      rw (q, z) (get_or-append (ring_ends (cell_of off ix j)) (ends_from off ix (suc j) n) 0 i (omega (arith, ring_long (cell_of off ix j))))

  at_later : (n j s i : ℕ) → j < s → s < length off → FromAt n (suc j) s i → FromAt (suc n) j s i
  unfolding ends_from
  at_later n j s i k l h =
      let u : suc j ≡ j + 1 = omega arith in
      let m : j + 1 + (s - (j + 1)) ≡ s = omega arith in
      let up : get_or off (j + 1) 0 ≤ get_or off s 0 = subst (λ (t : ℕ). get_or off (j + 1) 0 ≤ get_or off t 0) m (rises (s - (j + 1)) (j + 1) (omega arith)) in
      let c = cell_long j (omega arith) in
      let r = ring_long (cell_of off ix j) in
      let q : get_or off s 0 - get_or off j 0 + i ≡ length (ring_ends (cell_of off ix j)) + (get_or off s 0 - get_or off (j + 1) 0 + i) = omega (arith, cut.rising j (omega arith)) in
      rw q (get_or-append-add (ring_ends (cell_of off ix j)) (ends_from off ix (suc j) n) (get_or off s 0 - get_or off (j + 1) 0 + i) 0
      ∙ subst (λ (t : ℕ). get_or (ends_from off ix (suc j) n) (get_or off s 0 - get_or off t 0 + i) 0 ≡ get_or (ring_ends (cell_of off ix s)) i 0) u h)

  from_at : (n j s i : ℕ) → j ≤ s → s < j + n → j + n < length off → i < length (cell_of off ix s) → FromAt n j s i
  from_at zero j s i a b l h = absurd (omega arith)
  from_at (suc n) j s i a b l h =
      ⊎_elim (λ k. at_later n j s i k (omega arith) (from_at n (suc j) s i (omega arith) (omega arith) (omega arith) h)) (λ k. at_first n j s i (omega arith) h) (lt_or_ge j s)

  pub ends_at : (s i : ℕ) → s + 1 < length off → i < length (cell_of off ix s) → get_or (ends_of off ix) (get_or off s 0 + i) 0 ≡ get_or (ring_ends (cell_of off ix s)) i 0
  ends_at s i h k =
      let q : get_or off s 0 + i ≡ get_or off s 0 - get_or off 0 0 + i = omega (arith, cut.start) in
      rw q (from_at (length off - 1) 0 s i (omega arith) (omega arith) (omega arith) k)

  -- of n sites from j on
  from_long : (n j : ℕ) → j + n < length off → length (ends_from off ix j n) ≡ get_or off (j + n) 0 - get_or off j 0
  unfolding ends_from
  from_long zero j h = let q : j + 0 ≡ j = omega arith in rw q (none (get_or off j 0))
    where
      none : (a : ℕ) → 0 ≡ a - a
      none a = omega arith
  from_long (suc n) j h =
      let q : j + suc n ≡ suc j + n = omega arith in
      let u : suc j ≡ j + 1 = omega arith in
      let r = from_long n (suc j) (omega arith) in
      length-append (ring_ends (cell_of off ix j)) (ends_from off ix (suc j) n)
      ∙ rw q (plain _ _ _ _ _ (ring_long (cell_of off ix j) ∙ cell_long j (omega arith)) (subst (λ (t : ℕ). length (ends_from off ix (suc j) n) ≡ get_or off (suc j + n) 0 - get_or off t 0) u r)
      (cut.rising j (omega arith)) (subst (λ (t : ℕ). get_or off t 0 ≤ get_or off (suc j + n) 0) u (rises n (suc j) (omega arith))))
    where
      plain : (l m a b c : ℕ) → l ≡ b - a → m ≡ c - b → a ≤ b → b ≤ c → l + m ≡ c - a
      plain l m a b c e f g h = omega arith

  -- a ring ends where all do, or before
  pub ring_within : (s : ℕ) → s + 1 < length off → get_or off s 0 + length (cell_of off ix s) ≤ side_count off
  ring_within s h =
      let q : s + 1 + (length off - 1 - (s + 1)) ≡ length off - 1 = omega arith in
      let up : get_or off (s + 1) 0 ≤ side_count off = subst (λ (t : ℕ). get_or off (s + 1) 0 ≤ get_or off t 0) q (rises (length off - 1 - (s + 1)) (s + 1) (omega arith)) in
      omega (arith, cell_long s h, cut.rising s h)

  pub ends_long : length (ends_of off ix) ≡ side_count off
  ends_long = from_long (length off - 1) 0 (omega (arith, cut.some)) ∙ ap (λ (i : ℕ). get_or off i 0 - get_or off 0 0) (same (length off - 1)) ∙ plain _ _ cut.start
    where
      same : (n : ℕ) → 0 + n ≡ n
      same n = omega arith

      plain : (a b : ℕ) → b ≡ 0 → a - b ≡ a
      plain a b e = omega arith

  from_named : {m : ℕ} → EntriesNamed (entries_of_all off ix) m → (n j : ℕ) → j + n < length off → (k : ℕ) → k < length (ends_from off ix j n) → get_or (ends_from off ix j n) k 0 < m
  unfolding ends_from
  from_named a zero j h k g = absurd (omega arith)
  from_named {m} a (suc n) j h k g =
      let c = cell_of off ix j in
      let l = ring_long c in
      ⊎_elim
      (λ i. subst (λ (e : ℕ). e < m) (sym (get_or-append (ring_ends c) (ends_from off ix (suc j) n) 0 k i)) (ends_named c (cell_named off ix cut j (omega arith) a) k (omega arith)))
      (λ i. let q : k ≡ length (ring_ends c) + (k - length (ring_ends c)) = omega arith in
      rw q (subst (λ (e : ℕ). e < m) (sym (get_or-append-add (ring_ends c) (ends_from off ix (suc j) n) (k - length (ring_ends c)) 0))
      (from_named a n (suc j) (omega arith) (k - length (ring_ends c)) (omega (arith, length-append (ring_ends c) (ends_from off ix (suc j) n))))))
      (lt_or_ge k (length (ring_ends c)))

  pub all_named : {m : ℕ} → EntriesNamed (entries_of_all off ix) m → (k : ℕ) → k < side_count off → get_or (ends_of off ix) k 0 < m
  all_named a k h = from_named a (length off - 1) 0 (omega (arith, cut.some)) k (omega (arith, ends_long))
