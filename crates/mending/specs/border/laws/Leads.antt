-- What the table of where sites lead on holds, and where the loop begins.
use Rattle.std.specs.Prelude.{◌≡◌, refl, List, ◌⊎◌, ◌≢◌, ℕ, zero, suc, ◌+◌, ◌≤◌, ◌<◌, length, set}
use Rattle.std.proofs.Common.{sym, ◌∙◌, inl, inr, ⊎_elim, add-one, arith, length-set, eq-eqb, ne_eqb}
use Rattle.std.proofs.Math.Path.{ap}
use Rattle.std.proofs.Math.ListN.{get_or, get_or-replicate, get_or-eq_default}
use Rattle.std.proofs.lemmas.List.{length-replicate}
use Rattle.std.proofs.Math.Seq.{get_or-set_same, get_or-set_other}
use Rattle.base.specs.common.laws.Decide.{lt_or_ge, eq_or_ne}
use Rattle.base.specs.numbers.Numbers.{EMPTY}
use Rattle.mesh.specs.Mesh.{start_of, end_of, pair_of}
use Rattle.mesh.specs.Hull.{OpenEdge}
use Rattle.mesh.specs.laws.Next.{next_lt}
use Rattle.mending.specs.pairs.Chains.{NamesSites}
use Rattle.mending.specs.changes.laws.Listing.{entry_any}
use Rattle.mending.specs.border.Loop.{lead_at, leads_to, lead_table, sooner_of, lowest_to, loop_begin}
use Rattle.mending.specs.border.Answer.{OnTable, Closed}

module _ (tri he t : List ℕ) (e : ℕ) where
  pub lead_open : pair_of he e ≡ EMPTY → lead_at tri he t e ≡ set t (start_of tri e) (end_of tri e)
  unfolding lead_at
  lead_open h = rw (eq-eqb (pair_of he e) EMPTY h)

  pub lead_set : (s v : ℕ) → pair_of he e ≡ EMPTY → s ≡ start_of tri e → v ≡ end_of tri e → set t s v ≡ lead_at tri he t e
  lead_set s v h p q = rw (lead_open h, p, q)

  pub lead_paired : pair_of he e ≢ EMPTY → lead_at tri he t e ≡ t
  unfolding lead_at
  lead_paired h = rw (ne_eqb (pair_of he e) EMPTY h)

  pub lead_length : length (lead_at tri he t e) ≡ length t
  lead_length =
      ⊎_elim
      (λ h. ap length (lead_open h) ∙ length-set t (start_of tri e) (end_of tri e))
      (λ h. ap length (lead_paired h))
      (eq_or_ne (pair_of he e) EMPTY)

pub leads_length : (tri he : List ℕ) (w n : ℕ) → length (leads_to tri he w n) ≡ w
unfolding leads_to
leads_length tri he w zero = length-replicate w EMPTY
leads_length tri he w (suc n) = lead_length tri he (leads_to tri he w n) n ∙ leads_length tri he w n

-- of the unpaired half-edges below n that start at s one ends at r; r is EMPTY where there is none
pub record LeadsOn (tri he : List ℕ) (n s r : ℕ) : Type 0 where
  pub none : r ≡ EMPTY → (e : ℕ) → e < n → pair_of he e ≡ EMPTY → start_of tri e ≢ s
  pub some : r ≢ EMPTY → OpenEdge tri he n s r

module _ (tri he : List ℕ) (n s r : ℕ) where
  on_skip : (pair_of he n ≡ EMPTY → start_of tri n ≢ s) → LeadsOn tri he n s r → LeadsOn tri he (suc n) s r
  on_skip h g = record {
    none = λ z e l u q. ⊎_elim (λ w. h (ap (pair_of he) (sym w) ∙ u) (ap (start_of tri) (sym w) ∙ q)) (λ w. g.none z e (omega arith) u q) (eq_or_ne e n);
    some = λ z. let o = g.some z in (o.0, omega (arith, o.1), o.2, o.3, o.4);
  }

  on_take : pair_of he n ≡ EMPTY → start_of tri n ≡ s → end_of tri n ≡ r → r ≢ EMPTY → LeadsOn tri he (suc n) s r
  on_take u p q z = record { none = λ y. absurd (z y); some = λ _. (n, omega arith, u, p, q) }

module _ (tri he : List ℕ) (w : ℕ) (ok : NamesSites tri w) (small : w ≤ EMPTY) where
  abbrev at : ℕ → ℕ → ℕ
  at n s = get_or (leads_to tri he w n) s 0

  at_none : (s : ℕ) → s < w → at 0 s ≡ EMPTY
  unfolding leads_to
  at_none s l = get_or-replicate w s EMPTY 0 l

  at_paired : (n s : ℕ) → pair_of he n ≢ EMPTY → at (suc n) s ≡ at n s
  unfolding leads_to
  at_paired n s h = ap (λ t. get_or t s 0) (lead_paired tri he (leads_to tri he w n) n h)

  at_other : (n s : ℕ) → pair_of he n ≡ EMPTY → start_of tri n ≢ s → at (suc n) s ≡ at n s
  unfolding leads_to
  at_other n s h q =
      ap (λ t. get_or t s 0) (lead_open tri he (leads_to tri he w n) n h) ∙ get_or-set_other (leads_to tri he w n) (start_of tri n) s (end_of tri n) 0 (λ z. q (sym z))

  at_same : (n s : ℕ) → s < w → pair_of he n ≡ EMPTY → start_of tri n ≡ s → at (suc n) s ≡ end_of tri n
  unfolding leads_to
  at_same n s l h q =
      ap (λ t. get_or t s 0) (lead_open tri he (leads_to tri he w n) n h)
      ∙ ap (λ k. get_or (set (leads_to tri he w n) k (end_of tri n)) s 0) q
      ∙ get_or-set_same (leads_to tri he w n) s (end_of tri n) 0 (rw (leads_length tri he w n) l)

  leads_at : (n s : ℕ) → n ≤ length tri → s < w → LeadsOn tri he n s (at n s)
  leads_at zero s m l = rw (at_none s l) (record { none = λ z e h. absurd (omega arith); some = λ z. absurd (z refl) })
  leads_at (suc n) s m l =
      let g = leads_at n s (omega arith) l in
      ⊎_elim
      (λ u. ⊎_elim
      (λ q.
      let b : end_of tri n ≢ EMPTY = λ z. omega (arith, ok.named _ (next_lt {e = n} ok.threes (omega arith))) in
      rw (at_same n s l u q) (on_take tri he n s (end_of tri n) u q refl b))
      (λ q. rw (at_other n s u q) (on_skip tri he n s (at n s) (λ _. q) g))
      (eq_or_ne (start_of tri n) s))
      (λ u. rw (at_paired n s u) (on_skip tri he n s (at n s) (λ y. absurd (u y)) g))
      (eq_or_ne (pair_of he n) EMPTY)

  pub leads_on : (s : ℕ) → s < w → LeadsOn tri he (length tri) s (get_or (lead_table tri he w) s 0)
  leads_on s l = leads_at (length tri) s (omega arith) l

  pub leads_closed : Closed (lead_table tri he w)
  leads_closed s l =
      let k : s < w = rw (leads_length tri he w (length tri)) at l in
      ⊎_elim
      inl
      (λ z.
      let o = (leads_on s k).some z in
      inr (rw (leads_length tri he w (length tri), ← o.4) (ok.named _ (next_lt {e = o.0} ok.threes o.1))))
      (eq_or_ne (get_or (lead_table tri he w) s 0) EMPTY)

-- ---- where the loop begins
lowest_none : (t : List ℕ) (s : ℕ) → lowest_to t s ≡ EMPTY → get_or t s 0 ≡ EMPTY → lowest_to t (suc s) ≡ EMPTY
unfolding lowest_to sooner_of
lowest_none t s h k = rw (eq-eqb (lowest_to t s) EMPTY h, eq-eqb (get_or t s 0) EMPTY k)

lowest_here : (t : List ℕ) (s : ℕ) → lowest_to t s ≡ EMPTY → get_or t s 0 ≢ EMPTY → lowest_to t (suc s) ≡ s
unfolding lowest_to sooner_of
lowest_here t s h k = rw (eq-eqb (lowest_to t s) EMPTY h, ne_eqb (get_or t s 0) EMPTY k)

lowest_kept : (t : List ℕ) (s : ℕ) → lowest_to t s ≢ EMPTY → lowest_to t (suc s) ≡ lowest_to t s
unfolding lowest_to sooner_of
lowest_kept t s h = rw (ne_eqb (lowest_to t s) EMPTY h)

-- a turn of the loop that looks for it
pub lowest_next : (t : List ℕ) (s found found' : ℕ) → found ≡ lowest_to t s → found' ≡ sooner_of found (get_or t s 0) s → found' ≡ lowest_to t (s + 1)
unfolding lowest_to
lowest_next t s found found' p q = rw add-one (cc)

pub record LowestLeading (t : List ℕ) (n r : ℕ) : Type 0 where
  pub none : r ≡ EMPTY → (s : ℕ) → s < n → get_or t s 0 ≡ EMPTY
  pub some : r ≢ EMPTY → (r < n) × (get_or t r 0 ≢ EMPTY)
  pub least : r ≢ EMPTY → (s : ℕ) → s < r → get_or t s 0 ≡ EMPTY

pub nothing_yet : (t : List ℕ) → lowest_to t 0 ≡ EMPTY
unfolding lowest_to
nothing_yet t = refl

pub lowest_is : (t : List ℕ) (n : ℕ) → n ≤ EMPTY → LowestLeading t n (lowest_to t n)
lowest_is t zero l = rw (nothing_yet t) (record { none = λ z s h. absurd (omega arith); some = λ z. absurd (z refl); least = λ z. absurd (z refl) })
lowest_is t (suc n) l =
    let g = lowest_is t n (omega arith) in
    ⊎_elim
    (λ h. ⊎_elim
    (λ k. rw (lowest_none t n h k) (record {
      none = λ _ s m. ⊎_elim (λ q. rw q k) (λ q. g.none h s (omega arith)) (eq_or_ne s n);
      some = λ z. absurd (z refl);
      least = λ z. absurd (z refl);
    }))
    (λ k. rw (lowest_here t n h k) (record { none = λ z. absurd (omega arith); some = λ _. (omega arith, k); least = λ _ s m. g.none h s m }))
    (eq_or_ne (get_or t n 0) EMPTY))
    (λ h. rw (lowest_kept t n h) (record { none = λ z. absurd (h z); some = λ z. let s = g.some z in (omega (arith, s.0), s.1); least = g.least }))
    (eq_or_ne (lowest_to t n) EMPTY)

-- the first that leads on, or that none does
pub lowest_found : (t : List ℕ) (s : ℕ) → length t < EMPTY → s < length t → ((k : ℕ) → k < s → get_or t k 0 ≡ EMPTY) → get_or t s 0 ≢ EMPTY → s ≡ lowest_to t (length t)
lowest_found t s small l f n =
    let g = lowest_is t (length t) (omega arith) in
    let some : lowest_to t (length t) ≢ EMPTY = λ z. n (g.none z s l) in
    let low : lowest_to t (length t) ≤ s = not_lt (λ h. n (g.least some s h)) in
    let high : s ≤ lowest_to t (length t) = not_lt (λ h. (g.some some).1 (f (lowest_to t (length t)) h)) in
    omega (arith, low, high)
  where
    not_lt : {a b : ℕ} → (b < a → ⊥) → a ≤ b
    not_lt {a} {b} h = ⊎_elim (λ l. absurd (h l)) (λ l. l) (lt_or_ge b a)

pub lowest_all : (t : List ℕ) → length t < EMPTY → ((k : ℕ) → k < length t → get_or t k 0 ≡ EMPTY) → EMPTY ≡ lowest_to t (length t)
lowest_all t small f =
    let g = lowest_is t (length t) (omega arith) in
    ⊎_elim (λ z. sym z) (λ z. let s = g.some z in absurd (s.1 (f (lowest_to t (length t)) s.0))) (eq_or_ne (lowest_to t (length t)) EMPTY)

module _ (t : List ℕ) (first : ℕ) where
  pub begins_first : get_or t first EMPTY ≢ EMPTY → loop_begin t first ≡ first
  unfolding loop_begin
  begins_first h = rw (ne_eqb (get_or t first EMPTY) EMPTY h)

  pub begins_lowest : get_or t first EMPTY ≡ EMPTY → loop_begin t first ≡ lowest_to t (length t)
  unfolding loop_begin
  begins_lowest h = rw (eq-eqb (get_or t first EMPTY) EMPTY h)

  -- none, and no site leads on; or a site that does
  pub begins_cases : length t ≤ EMPTY → ((loop_begin t first ≡ EMPTY) × ((s : ℕ) → s < length t → get_or t s 0 ≡ EMPTY))
      ⊎ ((loop_begin t first < length t) × (get_or t (loop_begin t first) 0 ≢ EMPTY))
  begins_cases small =
      ⊎_elim
      (λ h.
      let q = begins_lowest h in
      let g = lowest_is t (length t) small in
      ⊎_elim
      (λ z. inl (q ∙ z, g.none z))
      (λ z. inr (rw q (g.some z)))
      (eq_or_ne (lowest_to t (length t)) EMPTY))
      (λ h.
      let q = begins_first h in
      ⊎_elim
      (λ l. inr (rw q (l, λ z. h (sym (entry_any t first l) ∙ z))))
      (λ l. absurd (h (get_or-eq_default t EMPTY l)))
      (lt_or_ge first (length t)))
      (eq_or_ne (get_or t first EMPTY) EMPTY)

  pub begins_on : length t ≤ EMPTY → OnTable t (loop_begin t first)
  begins_on small = ⊎_elim (λ w. inl w.0) (λ w. inr w.0) (begins_cases small)

-- ---- as the code asks for it
pub closed_table : (tri he t : List ℕ) (w : ℕ) → t ≡ lead_table tri he w → NamesSites tri w → w ≤ EMPTY → Closed t
closed_table tri he t w q n l = rw q (leads_closed tri he w n l)

pub on_table : (t : List ℕ) (b first : ℕ) → b ≡ loop_begin t first → length t ≤ EMPTY → OnTable t b
on_table t b first q l = rw q (begins_on t first l)

pub none_there : (t : List ℕ) (first s : ℕ) → s ≡ first → length t ≤ s → get_or t first EMPTY ≡ EMPTY
none_there t first s q l = get_or-eq_default t EMPTY (rw (← q) l)

pub none_here : (t : List ℕ) (first s : ℕ) → s ≡ first → s < length t → get_or t s 0 ≡ EMPTY → get_or t first EMPTY ≡ EMPTY
none_here t first s q l z = rw (← q) (sym (entry_any t s l) ∙ z)

pub some_here : (t : List ℕ) (first s : ℕ) → s ≡ first → s < length t → get_or t s 0 ≢ EMPTY → get_or t first EMPTY ≢ EMPTY
some_here t first s q l n z = n (entry_any t s l ∙ rw (← q) at z)
