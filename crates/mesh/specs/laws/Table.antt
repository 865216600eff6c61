-- What the leftmost table holds, and a turn of the loop that fills it.
use Rattle.std.specs.Prelude.{◌≡◌, refl, List, ◌++◌, ◌≢◌, ◌⊎◌, ℕ, zero, suc, ◌+◌, ◌-◌, ◌≤◌, ◌<◌, length, set, replicate}
use Rattle.std.proofs.Common.{sym, ◌∙◌, ⊎_elim, inl, inr, arith, length-set, le_antisymm, get_or-set_same, eq-eqb, ne_eqb}
use Rattle.std.proofs.Math.Path.{subst}
use Rattle.std.proofs.Math.ListN.{get_or, get_or-replicate, get_or-append}
use Rattle.std.proofs.lemmas.List.{length-replicate, replicate-append-replicate, set-append_left}
use Rattle.std.proofs.Math.Seq.{get_or-set_other}
use Rattle.base.specs.common.laws.Decide.{lt_or_ge, eq_or_ne}
use Rattle.base.specs.numbers.Numbers.{EMPTY}
use Rattle.mesh.specs.Mesh.{end_of, pair_of, chosen, table_to, leftmost_of, leftmost_in, Leftmost}

module _ (tri he : List ℕ) (n s r : ℕ) (small : n < EMPTY) (g : Leftmost tri he n s r) where
  -- half-edge n ends elsewhere
  skip : end_of tri n ≢ s → Leftmost tri he (suc n) s r
  skip h = record {
    none = λ q e l p. ⊎_elim (λ u. h (rw (← u) p)) (λ u. g.none q e (omega arith) p) (eq_or_ne e n);
    some = λ q. let p = g.some q in (omega arith, p.1);
    last = λ e l p u. ⊎_elim (λ w. absurd (h (rw (← w) p))) (λ w. g.last e (omega arith) p u) (eq_or_ne e n);
    lowest = λ q e l p. ⊎_elim (λ w. absurd (h (rw (← w) p))) (λ w. g.lowest q e (omega arith) p) (eq_or_ne e n);
  }

  -- it is taken: the first, or an unpaired one
  take_it : end_of tri n ≡ s → (r ≡ EMPTY) ⊎ (pair_of he n ≡ EMPTY) → Leftmost tri he (suc n) s n
  take_it h why = record {
    none = λ q. absurd (omega arith);
    some = λ _. (omega arith, h);
    last = λ e l p u. (
      omega arith,
      ⊎_elim (λ z. ⊎_elim (λ w. rw (← w) u) (λ w. absurd (g.none z e (omega arith) p)) (eq_or_ne e n)) (λ z. z) why,
    );
    lowest = λ q e l p.
        ⊎_elim (λ w. omega arith) (λ w. ⊎_elim (λ z. absurd (g.none z e (omega arith) p)) (λ z. absurd (q z)) why) (eq_or_ne e n);
  }

  -- it is left
  leave : end_of tri n ≡ s → r ≢ EMPTY → pair_of he n ≢ EMPTY → Leftmost tri he (suc n) s r
  leave h q u = record {
    none = λ z. absurd (q z);
    some = λ _. let p = g.some q in (omega arith, p.1);
    last = λ e l p w. ⊎_elim (λ z. absurd (u (rw (← z) w))) (λ z. g.last e (omega arith) p w) (eq_or_ne e n);
    lowest = λ z e l p. ⊎_elim (λ w. omega (arith, (g.some q).0)) (λ w. g.lowest z e (omega arith) p) (eq_or_ne e n);
  }

chosen_cases : (old p e : ℕ) → (((old ≡ EMPTY) ⊎ (p ≡ EMPTY)) × (chosen old p e ≡ e)) ⊎ ((old ≢ EMPTY) × (p ≢ EMPTY) × (chosen old p e ≡ old))
unfolding chosen
chosen_cases old p e =
    ⊎_elim
    (λ h. inl (inl h, rw (eq-eqb old EMPTY h)))
    (λ h. ⊎_elim
    (λ k. inl (inr k, rw (ne_eqb old EMPTY h, eq-eqb p EMPTY k)))
    (λ k. inr (h, k, rw (ne_eqb old EMPTY h, ne_eqb p EMPTY k)))
    (eq_or_ne p EMPTY))
    (eq_or_ne old EMPTY)

pub table_length : (tri he : List ℕ) (w n : ℕ) → length (table_to tri he w n) ≡ w
unfolding table_to
table_length tri he w zero = length-replicate w EMPTY
table_length tri he w (suc n) = length-set (table_to tri he w n) _ _ ∙ table_length tri he w n

module _ (tri he : List ℕ) (w n s : ℕ) where
  table_none : s < w → get_or (table_to tri he w 0) s 0 ≡ EMPTY
  unfolding table_to
  table_none l = get_or-replicate w s EMPTY 0 l

  table_same : end_of tri n ≡ s → s < w → get_or (table_to tri he w (suc n)) s 0 ≡ chosen (get_or (table_to tri he w n) s 0) (pair_of he n) n
  unfolding table_to
  table_same q l =
      let t = table_to tri he w n in
      subst (λ k. get_or (set t k (chosen (get_or t k 0) (pair_of he n) n)) s 0 ≡ chosen (get_or t s 0) (pair_of he n) n) (sym q) (get_or-set_same t s _ 0 (rw (table_length tri he w n) l))

  table_other : end_of tri n ≢ s → get_or (table_to tri he w (suc n)) s 0 ≡ get_or (table_to tri he w n) s 0
  unfolding table_to
  table_other q = get_or-set_other (table_to tri he w n) (end_of tri n) s _ 0 (λ z. q (sym z))

-- the leftmost half-edge
pub table_leftmost : (tri he : List ℕ) (w n s : ℕ) → n ≤ EMPTY → ((e : ℕ) → e < n → end_of tri e < w) → s < w → Leftmost tri he n s (get_or (table_to tri he w n) s 0)
table_leftmost tri he w zero s small sites l =
    rw (table_none tri he w 0 s l) (record { none = λ q e h. absurd (omega arith); some = λ q. absurd (q refl); last = λ e h. absurd (omega arith); lowest = λ q e h. absurd (omega arith) })
table_leftmost tri he w (suc n) s small sites l =
    let r = get_or (table_to tri he w n) s 0 in
    let g = table_leftmost tri he w n s (omega arith) (λ e h. sites e (omega arith)) l in
    ⊎_elim
    (λ q. rw (table_same tri he w n s q l) (⊎_elim
    (λ c. rw c.1 (take_it tri he n s r (omega arith) g q c.0))
    (λ c. rw c.2 (leave tri he n s r (omega arith) g q c.0 c.1))
    (chosen_cases r (pair_of he n) n)))
    (λ q. rw (table_other tri he w n s q) (skip tri he n s r (omega arith) g q))
    (eq_or_ne (end_of tri n) s)

-- a longer table is the same, and EMPTY at the places that are no sites
more_entries : (tri he : List ℕ) (sites more n : ℕ) → ((e : ℕ) → e < n → end_of tri e < sites) → table_to tri he (sites + more) n ≡ table_to tri he sites n ++ replicate more EMPTY
unfolding table_to
more_entries tri he sites more zero ends = sym (replicate-append-replicate sites more EMPTY)
more_entries tri he sites more (suc n) ends =
    let t = table_to tri he sites n in
    let l : end_of tri n < length t = rw (table_length tri he sites n) (ends n (omega arith)) in
    rw (more_entries tri he sites more n (λ e h. ends e (omega arith)), get_or-append t (replicate more EMPTY) 0 (end_of tri n) l) (set-append_left t (replicate more EMPTY) (end_of tri n) _ l)

module _ (tri he : List ℕ) (sites w : ℕ) (fits : sites ≤ w) (ends : (e : ℕ) → e < length tri → end_of tri e < sites) where
  pub table_longer : table_to tri he w (length tri) ≡ leftmost_in tri he sites w
  table_longer =
      let q : w ≡ sites + (w - sites) = omega arith in
      subst (λ k. table_to tri he k (length tri) ≡ leftmost_in tri he sites w) (sym q) (more_entries tri he sites (w - sites) (length tri) ends)

  pub longer_at : (s : ℕ) → s < sites → get_or (leftmost_in tri he sites w) s 0 ≡ get_or (leftmost_of tri he sites) s 0
  longer_at s l = get_or-append (leftmost_of tri he sites) (replicate (w - sites) EMPTY) 0 s (rw (table_length tri he sites (length tri)) l)

-- the same as docs/use/RULES.md has it, of a site: the unpaired half-edge if there is one alone, else the lowest, else EMPTY
module _ (tri he : List ℕ) (n s r : ℕ) (g : Leftmost tri he n s r) where
  pub the_unpaired : (e : ℕ) → e < n → end_of tri e ≡ s → pair_of he e ≡ EMPTY → ((k : ℕ) → k < n → end_of tri k ≡ s → pair_of he k ≡ EMPTY → k ≡ e) → n < EMPTY → r ≡ e
  the_unpaired e l h u one small =
      ⊎_elim
      (λ q. absurd (g.none q e l h))
      (λ q. one r (g.some q).0 (g.some q).1 (g.last e l h u).1)
      (eq_or_ne r EMPTY)

  pub the_lowest : (e : ℕ) → e < n → end_of tri e ≡ s → ((k : ℕ) → k < n → end_of tri k ≡ s → pair_of he k ≢ EMPTY) → ((k : ℕ) → k < e → end_of tri k ≢ s) → r ≡ e
  the_lowest e l h paired first =
      ⊎_elim
      (λ q. absurd (g.none q e l h))
      (λ q. ⊎_elim
      (λ w. absurd (first r w (g.some q).1))
      (λ w. le_antisymm (g.lowest (paired r (g.some q).0 (g.some q).1) e l h) w)
      (lt_or_ge r e))
      (eq_or_ne r EMPTY)

  pub the_none : ((k : ℕ) → k < n → end_of tri k ≢ s) → r ≡ EMPTY
  the_none h = ⊎_elim (λ q. q) (λ q. absurd (h r (g.some q).0 (g.some q).1)) (eq_or_ne r EMPTY)

-- a site has one leftmost half-edge
pub leftmost_one : (tri he : List ℕ) (n s t u : ℕ) → Leftmost tri he n s t → Leftmost tri he n s u → t ≡ u
leftmost_one tri he n s t u x y =
    ⊎_elim
    (λ z. ⊎_elim (λ w. z ∙ sym w) (λ w. absurd (x.none z u (y.some w).0 (y.some w).1)) (eq_or_ne u EMPTY))
    (λ z. ⊎_elim
    (λ w. absurd (y.none w t (x.some z).0 (x.some z).1))
    (λ w.
    let p = x.some z in
    let q = y.some w in
    ⊎_elim
    (λ o. let v = y.last t p.0 p.1 o in le_antisymm v.0 (x.last u q.0 q.1 v.1).0)
    (λ o. ⊎_elim
    (λ v. absurd (o (x.last u q.0 q.1 v).1))
    (λ v. le_antisymm (x.lowest o u q.0 q.1) (y.lowest v t p.0 p.1))
    (eq_or_ne (pair_of he u) EMPTY))
    (eq_or_ne (pair_of he t) EMPTY))
    (eq_or_ne u EMPTY))
    (eq_or_ne t EMPTY)
