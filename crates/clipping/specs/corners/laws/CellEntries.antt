-- Entries put one after another, and the corners of a site struck out one by one.
use Rattle.std.specs.Prelude.{ℕ, zero, suc, ◌+◌, ◌≤◌, ◌<◌, ◌≡◌, refl, List, [], ◌∷◌, ◌++◌, length, get_or, set}
use Rattle.std.proofs.Common.{sym, ap, ◌∙◌, ⊎_elim, arith, length-append}
use Rattle.std.proofs.lemmas.List.{map-append, length-map}
use Rattle.std.proofs.lemmas.List.Edits.{sets}
use Rattle.base.specs.common.Count.{occ}
use Rattle.base.specs.common.laws.Count.{same_cases}
use Rattle.base.specs.common.laws.Stores.{sets_join}
use Rattle.definition.specs.Cell.{Entry, Ins, last_or, unmarked}
use Rattle.definition.specs.laws.LastEntry.{last_append}
use Rattle.clipping.specs.corners.CellEntries.{EntriesPut}
use Rattle.definition.specs.Short.{ins}
use Rattle.clipping.specs.declared.corners.CellSoFar.{CellSoFar}

-- ---- a number struck out of a list

pub occ_set : (s x : ℕ) (os : List ℕ) (e : ℕ) → e < length os → get_or os e 0 ≡ s → (s ≡ x → ⊥) → occ s (set os e x) + 1 ≡ occ s os
occ_set s x [] e h g n = absurd (omega arith)
occ_set s x (o ∷ os) zero h g n =
    ⊎_elim
    (λ w. ⊎_elim (λ u. absurd (n u.0)) (λ u. omega arith) (same_cases s x))
    (λ w. absurd (w.0 (sym g)))
    (same_cases s o)
occ_set s x (o ∷ os) (suc e) h g n = omega (arith, occ_set s x os e (omega arith) g n)

-- ---- writing

pub puts_then :
    {s m k : ℕ} {os ps : List ℕ} {es fs : List Entry} {a b c : CellSoFar} {l l₁ l₂ : List ℕ}
    → EntriesPut s m (ins os es) a l b l₁
    → EntriesPut s k (ins ps fs) b l₁ c l₂
    → EntriesPut s (m + k) (ins ps (es ++ fs)) a l c l₂
puts_then {s} {m} {k} {os} {ps} {es} {fs} {a} {b} {c} {l} {l₁} {l₂} p q =
    let e = length-map es (λ (x : Entry). x.at) in
    let f = p.place in
    let g = q.place in
    let h = p.fit in
    let i = q.fit in
    record {
      slice =
          q.slice
          ∙ ap (λ (r : List ℕ). sets r b.end (unmarked fs)) p.slice
          ∙ sets_join (unmarked es) (unmarked fs) l a.end b.end (omega arith)
          ∙ ap (sets l a.end) (sym (map-append (λ (x : Entry). x.at) es fs));
      owners = q.owners;
      place = rw (length-append es fs) (omega arith);
      last = q.last ∙ ap (λ (n : ℕ). last_or n fs) p.last ∙ sym (last_append a.last es fs);
      four = q.four;
      fit = omega arith;
    }

pub puts_none : (s : ℕ) (a : CellSoFar) (l : List ℕ) → length a.owners ≡ 4 → EntriesPut s 0 (ins a.owners []) a l a l
puts_none s a l h = record { slice = refl; owners = refl; place = omega arith; last = refl; four = h; fit = omega arith }

pub puts_more : {s m : ℕ} {i : Ins} {a b : CellSoFar} {l l₁ : List ℕ} (k : ℕ) → m ≤ k → EntriesPut s m i a l b l₁ → EntriesPut s k i a l b l₁
puts_more k h p =
    let f = p.fit in
    record { slice = p.slice; owners = p.owners; place = p.place; last = p.last; four = p.four; fit = omega arith }
