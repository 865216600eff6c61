-- The lists of the numbers below n, joined and cut: one list more, how long they are together, and where each stands.
use Rattle.std.specs.Prelude.{◌≡◌, take, drop}
use Rattle.std.proofs.Math.Path.{refl, sym, ap}
use Rattle.std.proofs.Common.{◌∙◌, zero-add, take_at, drop_at}
use mathlib.Core.List.{List, [], ◌∷◌, ◌++◌, append-nil, append_assoc}
use Rattle.std.proofs.Math.Logic.{⊎_elim}
use Prim.Native.Nat.{ℕ, zero, suc, ◌+◌, ◌≤◌, ◌<◌}
use native.Mathlib.Omega.{arith}
use Rattle.std.proofs.Math.ListN.{length, get_or, length-append, get_or-append}
use Rattle.std.proofs.Math.Seq.{get_or-append-add}
use Rattle.base.specs.common.Count.{sum_to}
use Rattle.base.specs.common.laws.Count.{sum_mono}
use Rattle.base.specs.common.laws.Decide.{eq_or_ne}
use Rattle.cell_memory.specs.layout.Regions.{joined, offsets_from}
use Rattle.cell_memory.specs.layout.laws.Compacted.{joined_snoc, offsets_length}
use Rattle.queries.specs.all_neighbours.Lists.{lists_to}

offsets_snoc : (n : ℕ) (cs : List (List ℕ)) (c : List ℕ) → offsets_from n (cs ++ c ∷ []) ≡ offsets_from n cs ++ (n + (length (joined cs) + length c)) ∷ []
unfolding offsets_from joined
offsets_snoc n [] c = ap (λ (k : ℕ). n ∷ k ∷ []) (omega arith)
offsets_snoc n (d ∷ cs) c =
    let q : n + length d + (length (joined cs) + length c) ≡ n + (length (d ++ joined cs) + length c) = omega (arith, length-append d (joined cs)) in
    ap (λ (l : List ℕ). n ∷ l) (offsets_snoc (n + length d) cs c ∙ ap (λ (k : ℕ). offsets_from (n + length d) cs ++ k ∷ []) q)

module _ (f : ℕ → List ℕ) where
  abbrev pub end_of_lists : ℕ → ℕ
  end_of_lists n = length (joined (lists_to f n))

  pub lists_length : (n : ℕ) → length (lists_to f n) ≡ n
  unfolding lists_to
  lists_length zero = refl
  lists_length (suc n) = length-append (lists_to f n) (f n ∷ []) ∙ omega (arith, lists_length n)

  -- one list more
  pub joined_next : (n : ℕ) → joined (lists_to f (suc n)) ≡ joined (lists_to f n) ++ f n
  unfolding lists_to
  joined_next n = joined_snoc (lists_to f n) (f n)

  pub end_next : (n : ℕ) → end_of_lists (suc n) ≡ end_of_lists n + length (f n)
  end_next n = ap length (joined_next n) ∙ length-append (joined (lists_to f n)) (f n)

  pub cuts_next : (n : ℕ) → offsets_from 0 (lists_to f (suc n)) ≡ offsets_from 0 (lists_to f n) ++ end_of_lists (suc n) ∷ []
  unfolding lists_to
  cuts_next n =
      offsets_snoc 0 (lists_to f n) (f n)
      ∙ ap (λ (k : ℕ). offsets_from 0 (lists_to f n) ++ k ∷ []) (zero-add _ ∙ sym (length-append (joined (lists_to f n)) (f n)) ∙ ap length (sym (joined_snoc (lists_to f n) (f n))))

  pub cuts_length : (n : ℕ) → length (offsets_from 0 (lists_to f n)) ≡ suc n
  cuts_length n = offsets_length 0 (lists_to f n) ∙ ap suc (lists_length n)

  -- how long they are together
  pub end_sum : (n : ℕ) → end_of_lists n ≡ sum_to (λ s. length (f s)) n
  unfolding lists_to joined
  end_sum zero = refl
  end_sum (suc n) = end_next n ∙ ap (λ (k : ℕ). k + length (f n)) (end_sum n)

  pub end_mono : (i j : ℕ) → i ≤ j → end_of_lists i ≤ end_of_lists j
  end_mono i j h = omega (arith, end_sum i, end_sum j, sum_mono (λ s. length (f s)) i j h)

  -- where each stands
  pub cut_at : (n s : ℕ) → s ≤ n → get_or (offsets_from 0 (lists_to f n)) s 0 ≡ end_of_lists s
  unfolding lists_to joined offsets_from
  cut_at zero s h = let z : s ≡ 0 = omega arith in rw z
  cut_at (suc n) s h =
      let cuts = offsets_from 0 (lists_to f n) in
      ap (λ (l : List ℕ). get_or l s 0) (cuts_next n)
      ∙ ⊎_elim
      (λ q. let e : s ≡ length cuts + 0 = omega (arith, cuts_length n) in
      ap (λ (k : ℕ). get_or (cuts ++ end_of_lists (suc n) ∷ []) k 0) e ∙ get_or-append-add cuts (end_of_lists (suc n) ∷ []) 0 0 ∙ ap end_of_lists (sym q))
      (λ q. let l : s ≤ n = omega arith in get_or-append cuts (end_of_lists (suc n) ∷ []) 0 s (omega (arith, cuts_length n)) ∙ cut_at n s l)
      (eq_or_ne s (suc n))

  split : (n s : ℕ) → s < n → (rest : List ℕ) × (joined (lists_to f n) ≡ joined (lists_to f s) ++ (f s ++ rest))
  split zero s h = absurd (omega arith)
  split (suc n) s h =
      ⊎_elim
      (λ q. ([], joined_next n ∙ rw q (ap (λ (l : List ℕ). joined (lists_to f n) ++ l) (sym (append-nil (f n))))))
      (λ q. let l : s < n = omega arith in
      let p = split n s l in (
        p.0 ++ f n,
        joined_next n ∙ ap (λ (l : List ℕ). l ++ f n) p.1 ∙ append_assoc (joined (lists_to f s)) (f s ++ p.0) (f n)
            ∙ ap (λ (l : List ℕ). joined (lists_to f s) ++ l) (append_assoc (f s) p.0 (f n)),
      ))
      (eq_or_ne s n)

  pub part_at : (n s : ℕ) → s < n → take (length (f s)) (drop (end_of_lists s) (joined (lists_to f n))) ≡ f s
  part_at n s h =
      let p = split n s h in
      ap (λ (l : List ℕ). take (length (f s)) (drop (end_of_lists s) l)) p.1
      ∙ ap (take (length (f s))) (drop_at (joined (lists_to f s)) (f s ++ p.0) (end_of_lists s) refl)
      ∙ take_at (f s) p.0 (length (f s)) refl
