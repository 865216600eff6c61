-- A hull read from another place on is a hull, and the loop from a site of a hull is that hull from its place on.
use Rattle.std.specs.Prelude.{◌≡◌, List, [], ◌∷◌, ◌⊎◌, ◌≢◌, ltb, length}
use Rattle.std.proofs.Math.Path.{refl, ap}
use Rattle.std.proofs.Common.{sym, ◌∙◌, inl, inr, ⊎_elim, ext_get_or, eq-eqb, ne_eqb, lt-ltb, le-ltb}
use Prim.Native.Nat.{ℕ, zero, suc, ◌+◌, ◌-◌, ◌≤◌, ◌<◌}
use native.Mathlib.Omega.{arith}
use Rattle.std.proofs.Math.ListN.{get_or}
use Rattle.base.specs.common.Pick.{pick}
use Rattle.base.specs.common.Count.{occ}
use Rattle.base.specs.common.laws.Decide.{lt_or_ge, eq_or_ne}
use Rattle.base.specs.common.laws.Count.{same_cases, pigeonhole, below_occ}
use Rattle.base.specs.numbers.Numbers.{EMPTY}
use Rattle.mesh.specs.Hull.{next_place, next_site, Hull}
use Rattle.mesh.specs.laws.Border.{after_cases, after_lt, hull_border}
use Rattle.mending.specs.pairs.Chains.{NamesSites}
use Rattle.mending.specs.border.Loop.{lead_table, loop_step, loop_to, loop_of}
use Rattle.mending.specs.border.laws.Leads.{leads_on, leads_length}

-- the place j places after place i of n, cyclically
unfoldable pub place_from : ℕ → ℕ → ℕ → ℕ
place_from n i j = pick (ltb (i + j) n) (λ _. i + j) (λ _. i + j - n)

place_cases : (n i j : ℕ) → ((i + j < n) × (place_from n i j ≡ i + j)) ⊎ ((n ≤ i + j) × (place_from n i j ≡ i + j - n))
unfolding place_from
place_cases n i j = ⊎_elim (λ l. inl (l, rw (lt-ltb (i + j) n l))) (λ l. inr (l, rw (le-ltb (i + j) n l))) (lt_or_ge (i + j) n)

module _ (n i : ℕ) (in_hull : i < n) where
  place_lt : (j : ℕ) → j < n → place_from n i j < n
  place_lt j l = ⊎_elim (λ w. omega arith) (λ w. omega arith) (place_cases n i j)

  place_zero : place_from n i 0 ≡ i
  place_zero = ⊎_elim (λ w. omega arith) (λ w. omega arith) (place_cases n i 0)

  place_one : (j k : ℕ) → j < n → k < n → place_from n i j ≡ place_from n i k → j ≡ k
  place_one j k lj lk q =
      ⊎_elim
      (λ w. ⊎_elim (λ v. omega arith) (λ v. omega arith) (place_cases n i k))
      (λ w. ⊎_elim (λ v. omega arith) (λ v. omega arith) (place_cases n i k))
      (place_cases n i j)

  place_next : (j : ℕ) → j < n → next_place n (place_from n i j) ≡ place_from n i (next_place n j)
  place_next j l =
      ⊎_elim
      (λ a. ⊎_elim (λ b. last j a b) (λ b. last' j a b) (place_cases n i j))
      (λ a. rw a.1 (⊎_elim (λ b. more j l a b) (λ b. more' j l a b) (place_cases n i j)))
      (after_cases n j)
    where
      last : (j : ℕ) → (j + 1 ≡ n) × (next_place n j ≡ 0) → (i + j < n) × (place_from n i j ≡ i + j) → next_place n (place_from n i j) ≡ place_from n i (next_place n j)
      last j a b = rw (a.1, place_zero, b.1) (⊎_elim (λ c. omega arith) (λ c. omega arith) (after_cases n (i + j)))

      last' : (j : ℕ) → (j + 1 ≡ n) × (next_place n j ≡ 0) → (n ≤ i + j) × (place_from n i j ≡ i + j - n) → next_place n (place_from n i j) ≡ place_from n i (next_place n j)
      last' j a b = rw (a.1, place_zero, b.1) (⊎_elim (λ c. omega arith) (λ c. omega arith) (after_cases n (i + j - n)))

      more : (j : ℕ) → j < n → (j + 1 ≢ n) × (next_place n j ≡ j + 1) → (i + j < n) × (place_from n i j ≡ i + j) → next_place n (place_from n i j) ≡ place_from n i (j + 1)
      more j l a b =
          rw b.1 (⊎_elim
          (λ c. ⊎_elim (λ d. omega arith) (λ d. omega arith) (place_cases n i (j + 1)))
          (λ c. ⊎_elim (λ d. omega arith) (λ d. omega arith) (place_cases n i (j + 1)))
          (after_cases n (i + j)))

      more' : (j : ℕ) → j < n → (j + 1 ≢ n) × (next_place n j ≡ j + 1) → (n ≤ i + j) × (place_from n i j ≡ i + j - n) → next_place n (place_from n i j) ≡ place_from n i (j + 1)
      more' j l a b =
          rw b.1 (⊎_elim
          (λ c. ⊎_elim (λ d. omega arith) (λ d. omega arith) (place_cases n i (j + 1)))
          (λ c. ⊎_elim (λ d. omega arith) (λ d. omega arith) (place_cases n i (j + 1)))
          (after_cases n (i + j - n)))

-- k entries of the list h, read cyclically from j places after place i on
unfoldable pub round_from : List ℕ → ℕ → ℕ → ℕ → List ℕ
round_from h i j zero = []
round_from h i j (suc k) = get_or h (place_from (length h) i j) 0 ∷ round_from h i (suc j) k

pub round_length : (h : List ℕ) (i j k : ℕ) → length (round_from h i j k) ≡ k
unfolding round_from
round_length h i j zero = refl
round_length h i j (suc k) = ap suc (round_length h i (suc j) k)

round_at : (h : List ℕ) (i j k m : ℕ) → m < k → get_or (round_from h i j k) m 0 ≡ get_or h (place_from (length h) i (j + m)) 0
unfolding round_from
round_at h i j zero m l = absurd (omega arith)
round_at h i j (suc k) zero l = ap (λ p. get_or h (place_from (length h) i p) 0) (omega arith)
round_at h i j (suc k) (suc m) l = round_at h i (suc j) k m (omega arith) ∙ ap (λ p. get_or h (place_from (length h) i p) 0) (omega arith)

abbrev pub round_of : List ℕ → ℕ → List ℕ
round_of h i = round_from h i 0 (length h)

-- a list of different numbers holds none twice
module _ (v : ℕ) where
  stands : (l : List ℕ) → 0 < occ v l → (i : ℕ) × (i < length l) × (get_or l i 0 ≡ v)
  stands [] h = absurd (omega arith)
  stands (x ∷ l) h =
      ⊎_elim
      (λ w. (0, omega arith, sym w.0))
      (λ w. let s = stands l (omega arith) in (suc s.0, omega (arith, s.1), s.2))
      (same_cases v x)

  different_once : (l : List ℕ) → ((i j : ℕ) → i < length l → j < length l → get_or l i 0 ≡ get_or l j 0 → i ≡ j) → occ v l ≤ 1
  different_once [] h = omega arith
  different_once (x ∷ l) h =
      let g = different_once l (λ i j li lj q. let z = h (suc i) (suc j) (omega arith) (omega arith) q in omega arith) in
      ⊎_elim
      (λ w. ⊎_elim
      (λ m. let s = stands l m in let z = h 0 (suc s.0) (omega arith) (omega (arith, s.1)) (sym w.0 ∙ sym s.2) in absurd (omega arith))
      (λ m. omega arith)
      (lt_or_ge 0 (occ v l)))
      (λ w. omega arith)
      (same_cases v x)

module _ (tri he h : List ℕ) (sites : ℕ) (ok : Hull tri he h sites) where
  pub hull_one : (i j : ℕ) → i < length h → j < length h → get_or h i 0 ≡ get_or h j 0 → i ≡ j
  hull_one i j li lj q =
      ⊎_elim
      (λ l. absurd ((ok.fresh j lj).1 i l q))
      (λ l. ⊎_elim (λ k. absurd ((ok.fresh i li).1 j k (sym q))) (λ k. omega arith) (lt_or_ge j i))
      (lt_or_ge i j)

  pub hull_few : length h ≤ sites
  hull_few = pigeonhole sites h (below_occ h sites (λ k l. (ok.fresh k l).0)) (λ v. different_once v h hull_one)

  -- read from place i on it is a hull too
  pub round_hull : (i : ℕ) → i < length h → Hull tri he (round_of h i) sites
  round_hull i l =
      let n = length h in
      let long = round_length h i 0 n in
      let at : (m : ℕ) → m < n → get_or (round_of h i) m 0 ≡ get_or h (place_from n i m) 0 = λ m k. round_at h i 0 n m k ∙ ap (λ p. get_or h (place_from n i p) 0) (omega arith) in
      record {
        fresh = λ m k.
            let k' : m < n = rw long at k in (
              rw (at m k') (ok.fresh (place_from n i m) (place_lt n i l m k')).0,
              λ j b q. absurd (omega (
                arith,
                place_one n i l j m (omega arith) k' (hull_one _ _ (place_lt n i l j (omega arith)) (place_lt n i l m k')
                    (sym (at j (omega arith)) ∙ q ∙ at m k')),
              )),
            );
        edges = λ m k.
            let k' : m < n = rw long at k in
            let o = ok.edges (place_from n i m) (place_lt n i l m k') in
            let e : next_site h (place_from n i m) ≡ next_site (round_of h i) m =
            ap (λ p. get_or h p 0) (place_next n i l m k') ∙ sym (at (next_place n m) (after_lt n m k')) ∙ ap (λ p. get_or (round_of h i) (next_place p m) 0) (sym long) in
            (o.0, o.1, o.2, o.3 ∙ sym (at m k'), o.4 ∙ e);
        count = ok.count ∙ sym long;
      }

  pub round_first : (i : ℕ) → i < length h → get_or (round_of h i) 0 0 ≡ get_or h i 0
  round_first i l = round_at h i 0 (length h) 0 (omega arith) ∙ ap (λ p. get_or h p 0) (ap (place_from (length h) i) (omega arith) ∙ place_zero (length h) i l)

  pub round_same : 0 < length h → round_of h 0 ≡ h
  round_same l =
      ext_get_or 0 (round_of h 0) h (round_length h 0 0 (length h))
      (λ m k.
      let k' : m < length h = rw (round_length h 0 0 (length h)) at k in
      round_at h 0 0 (length h) m k' ∙ ap (λ p. get_or h p 0) (⊎_elim (λ w. omega arith) (λ w. omega arith) (place_cases (length h) 0 (0 + m))))

  -- ---- the loop of the unpaired half-edges
  module _ (named : NamesSites tri sites) (same : length he ≡ length tri) (small : sites ≤ EMPTY) where
    abbrev t : List ℕ
    t = lead_table tri he sites

    -- a site that leads on stands on the hull and leads to the next
    pub on_hull_lem : (s : ℕ) → s < sites → get_or t s 0 ≢ EMPTY → (i : ℕ) × (i < length h) × (s ≡ get_or h i 0) × (get_or t s 0 ≡ next_site h i)
    on_hull_lem s l z =
        let o = (leads_on tri he sites named small s l).some z in
        let b = (hull_border tri he h sites ok o.0 (rw same o.1) o.2).0 in
        (b.0, b.1, sym o.3 ∙ b.2, sym o.4 ∙ b.3)

    pub hull_leads : (i : ℕ) → i < length h → get_or t (get_or h i 0) 0 ≡ next_site h i
    hull_leads i l =
        let s = (ok.fresh i l).0 in
        let o = ok.edges i l in
        ⊎_elim
        (λ z. absurd ((leads_on tri he sites named small (get_or h i 0) s).none z o.0 (rw same at o.1) o.2 o.3))
        (λ z. let b = on_hull_lem (get_or h i 0) s z in b.3 ∙ ap (next_site h) (sym (hull_one i b.0 l b.1 b.2)))
        (eq_or_ne (get_or t (get_or h i 0) 0) EMPTY)

    site_some : (i : ℕ) → i < length h → get_or h i 0 ≢ EMPTY
    site_some i l z = omega (arith, (ok.fresh i l).0)

    module _ (i : ℕ) (l : i < length h) where
      abbrev b : ℕ
      b = get_or h i 0

      loop_on : (k s : ℕ) → s ≢ EMPTY → loop_to t b (suc k) s ≡ s ∷ loop_to t b k (loop_step t b s)
      unfolding loop_to
      loop_on k s z = rw (ne_eqb s EMPTY z)

      loop_end : (k : ℕ) → loop_to t b k EMPTY ≡ []
      unfolding loop_to
      loop_end zero = refl
      loop_end (suc k) = refl

      step_back : (s : ℕ) → get_or t s 0 ≡ b → loop_step t b s ≡ EMPTY
      unfolding loop_step
      step_back s q = rw (eq-eqb (get_or t s 0) b q)

      step_on : (s : ℕ) → get_or t s 0 ≢ b → loop_step t b s ≡ get_or t s 0
      unfolding loop_step
      step_on s q = rw (ne_eqb (get_or t s 0) b q)

      abbrev place : ℕ → ℕ
      place j = place_from (length h) i j

      leads_place : (j : ℕ) → j < length h → get_or t (get_or h (place j) 0) 0 ≡ get_or h (place (next_place (length h) j)) 0
      leads_place j k = hull_leads (place j) (place_lt (length h) i l j k) ∙ ap (λ p. get_or h p 0) (place_next (length h) i l j k)

      -- the last place leads back, another one on
      step_last : (j : ℕ) → j + 1 ≡ length h → loop_step t b (get_or h (place j) 0) ≡ EMPTY
      step_last j q =
          step_back (get_or h (place j) 0) (leads_place j (omega arith) ∙ ⊎_elim
          (λ w. ap (λ p. get_or h (place p) 0) w.1 ∙ ap (λ p. get_or h p 0) (place_zero (length h) i l))
          (λ w. absurd (w.0 q))
          (after_cases (length h) j))

      step_next : (j : ℕ) → j + 1 < length h → loop_step t b (get_or h (place j) 0) ≡ get_or h (place (j + 1)) 0
      step_next j q =
          let e : get_or t (get_or h (place j) 0) 0 ≡ get_or h (place (j + 1)) 0 = leads_place j (omega arith) ∙ ⊎_elim
          (λ w. absurd (omega arith))
          (λ w. ap (λ p. get_or h (place p) 0) w.1)
          (after_cases (length h) j) in
          step_on (get_or h (place j) 0) (λ z. absurd (omega (
            arith,
            place_one (length h) i l (j + 1) 0 q (omega arith)
                (hull_one _ _ (place_lt (length h) i l (j + 1) q) (place_lt (length h) i l 0 (omega arith)) (sym e ∙ z ∙ ap (λ p. get_or h p 0) (sym (place_zero (length h) i l)))),
          ))) ∙ e

      loop_from : (k j f : ℕ) → j + suc k ≡ length h → suc k ≤ f → loop_to t b f (get_or h (place j) 0) ≡ round_from h i j (suc k)
      unfolding round_from
      loop_from k j zero q m = absurd (omega arith)
      loop_from zero j (suc f) q m =
          loop_on f (get_or h (place j) 0) (site_some (place j) (place_lt (length h) i l j (omega arith)))
          ∙ ap (λ r. get_or h (place j) 0 ∷ r) (ap (loop_to t b f) (step_last j (omega arith)) ∙ loop_end f)
      loop_from (suc k) j (suc f) q m =
          let z : j + 1 ≡ suc j = omega arith in
          loop_on f (get_or h (place j) 0) (site_some (place j) (place_lt (length h) i l j (omega arith)))
          ∙ ap (λ r. get_or h (place j) 0 ∷ r) (ap (loop_to t b f) (step_next j (omega arith) ∙ ap (λ p. get_or h (place p) 0) z) ∙ loop_from k (suc j) f (omega arith) (omega arith))

      -- the loop from a site of the hull is the hull from its place on
      pub loop_round : loop_of t b ≡ round_of h i
      loop_round =
          let n : length h ≡ suc (length h - 1) = omega arith in
          ap (loop_to t b (length t)) (ap (λ p. get_or h p 0) (sym (place_zero (length h) i l)))
          ∙ loop_from (length h - 1) 0 (length t) (omega arith) (omega (arith, leads_length tri he sites (length tri), hull_few))
          ∙ ap (round_from h i 0) (sym n)
