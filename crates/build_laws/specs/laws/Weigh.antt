-- Sums over all cells: what they are when one cell is set, and that the sites' shares of a list are no more than its entries.
use Rattle.std.specs.Prelude.{◌≡◌, refl, List, [], ◌∷◌, ℕ, zero, suc, ◌+◌, ◌*◌, ◌≤◌, ◌<◌, length, get_or, set}
use Rattle.std.proofs.Common.{ap, ◌∙◌, subst, ⊎_elim, arith, add-zero, zero-add, length-append}
use Rattle.base.specs.common.Count.{same, occ}
use Rattle.base.specs.common.laws.Count.{same_cases, occ_append}
use Rattle.definition.specs.Cell.{Entry}
use Rattle.definition.specs.Build.{wrapped_in, all_wrapped}
use Rattle.definition.specs.Measures.{weigh}

at_next : (w : ℕ → List Entry → ℕ) (i k : ℕ) (c : List Entry) → w (suc i + k) c ≡ w (i + suc k) c
at_next w i k c = let q : suc i + k ≡ i + suc k = omega arith in ap (λ (n : ℕ). w n c) q

pub weigh_set : (w : ℕ → List Entry → ℕ) (i : ℕ) (cs : List (List Entry)) (k : ℕ) (c : List Entry) → k < length cs
    → weigh w i (set cs k c) + w (i + k) (get_or cs k []) ≡ weigh w i cs + w (i + k) c
weigh_set w i [] k c h = absurd (omega arith)
weigh_set w i (d ∷ cs) zero c h = rw (add-zero i) (omega arith)
weigh_set w i (d ∷ cs) (suc k) c h =
    omega (arith, weigh_set w (suc i) cs k c (omega arith), at_next w i k c, at_next w i k (get_or cs k []))

-- an empty cell, filled
pub weigh_put : (w : ℕ → List Entry → ℕ) (cs : List (List Entry)) (k : ℕ) (c : List Entry) → k < length cs → get_or cs k [] ≡ [] → w k [] ≡ 0
    → weigh w 0 (set cs k c) ≡ weigh w 0 cs + w k c
weigh_put w cs k c h e z =
    let g : weigh w 0 (set cs k c) + w k (get_or cs k []) ≡ weigh w 0 cs + w k c = subst
    (λ (n : ℕ). weigh w 0 (set cs k c) + w n (get_or cs k []) ≡ weigh w 0 cs + w n c) (zero-add k) (weigh_set w 0 cs k c h) in
    let f : w k (get_or cs k []) ≡ 0 = rw e z in
    omega arith

pub weigh_le : (u w : ℕ → List Entry → ℕ) (i : ℕ) (cs : List (List Entry)) → ((j : ℕ) (c : List Entry) → u j c ≤ w j c) → weigh u i cs ≤ weigh w i cs
weigh_le u w i [] h = omega arith
weigh_le u w i (c ∷ cs) h = omega (arith, h i c, weigh_le u w (suc i) cs h)

-- ---- weights that the site alone gives

abbrev pub share : (ℕ → ℕ) → ℕ → List Entry → ℕ
share u i c = u i

share_sum : (u w : ℕ → ℕ) (i : ℕ) (cs : List (List Entry)) → weigh (share (λ j. u j + w j)) i cs ≡ weigh (share u) i cs + weigh (share w) i cs
share_sum u w i [] = refl
share_sum u w i (c ∷ cs) = omega (arith, share_sum u w (suc i) cs)

share_zero : (i : ℕ) (cs : List (List Entry)) → weigh (share (λ j. 0)) i cs ≡ 0
share_zero i [] = refl
share_zero i (c ∷ cs) = omega (arith, share_zero (suc i) cs)

passed : (s i : ℕ) (cs : List (List Entry)) → s < i → weigh (share (λ j. same j s)) i cs ≡ 0
passed s i [] h = refl
passed s i (c ∷ cs) h = ⊎_elim (λ w. absurd (omega (arith, w.0))) (λ w. omega (arith, w.1, passed s (suc i) cs (omega arith))) (same_cases i s)

-- one thing is shared once
share_one : (s i : ℕ) (cs : List (List Entry)) → weigh (share (λ j. same j s)) i cs ≤ 1
share_one s i [] = omega arith
share_one s i (c ∷ cs) = ⊎_elim (λ w. omega (arith, w.1, passed s (suc i) cs (omega (arith, w.0)))) (λ w. omega (arith, w.1, share_one s (suc i) cs)) (same_cases i s)

pub share_occ : (l : List ℕ) (i : ℕ) (cs : List (List Entry)) → weigh (share (λ j. occ j l)) i cs ≤ length l
share_occ [] i cs = omega (arith, share_zero i cs)
share_occ (x ∷ l) i cs = omega (arith, share_sum (λ j. same j x) (λ j. occ j l) i cs, share_one x i cs, share_occ l i cs)

-- twice as much, and a sum of two
pub share_double : (u w : ℕ → ℕ) (i : ℕ) (cs : List (List Entry)) → weigh (share (λ j. u j + 2 * w j)) i cs ≡ weigh (share u) i cs + 2 * weigh (share w) i cs
share_double u w i [] = refl
share_double u w i (c ∷ cs) = omega (arith, share_double u w (suc i) cs)

-- ---- the wrapped corners of all cells

pub all_occ : (v i : ℕ) (cs : List (List Entry)) → occ v (all_wrapped cs) ≡ weigh (λ j c. occ v (wrapped_in c)) i cs
unfolding all_wrapped
all_occ v i [] = refl
all_occ v i (c ∷ cs) = occ_append v (wrapped_in c) (all_wrapped cs) ∙ ap (λ (n : ℕ). occ v (wrapped_in c) + n) (all_occ v (suc i) cs)

pub all_length : (i : ℕ) (cs : List (List Entry)) → length (all_wrapped cs) ≡ weigh (λ j c. length (wrapped_in c)) i cs
unfolding all_wrapped
all_length i [] = refl
all_length i (c ∷ cs) = length-append (wrapped_in c) (all_wrapped cs) ∙ ap (λ (n : ℕ). length (wrapped_in c) + n) (all_length (suc i) cs)
