-- The lost corners are those that are with their owners still and stand in no cell: a corner that was struck out was wrapped, so it stands in one.
use Rattle.std.specs.Prelude.{◌≡◌, ◌⊎◌, ◌≢◌, length, get_or}
use Rattle.std.proofs.Math.Path.{refl}
use mathlib.Core.List.{List, [], ◌∷◌, ◌++◌}
use Rattle.std.proofs.Math.Logic.{⊎_elim}
use Prim.Native.Nat.{ℕ, suc, ◌+◌, ◌≤◌, ◌<◌}
use native.Mathlib.Omega.{arith}
use Rattle.std.proofs.Common.{add-zero}
use borrow.Author.Tests.{eq-eqb, ne_eqb}
use Rattle.base.specs.common.Count.{occ}
use Rattle.base.specs.common.laws.Count.{occ_append}
use Rattle.base.specs.numbers.Numbers.{EMPTY}
use Rattle.definition.specs.Cell.{Mark, plain, crossing, wrapped, Entry, unmarked}
use Rattle.definition.specs.Build.{if_wrapped, wrapped_in, all_wrapped, all_entries, lost_from}
use Rattle.definition.specs.Measures.{lost_left}

-- what was wrapped stands among the entries
cell_wrapped_there : (v : ℕ) (es : List Entry) → occ v (wrapped_in es) ≤ occ v (unmarked es)
unfolding wrapped_in
cell_wrapped_there v [] = omega arith
cell_wrapped_there v (e ∷ es) = by e.mark e.at (cell_wrapped_there v es)
  where
    by : (m : Mark) (w : ℕ) → occ v (wrapped_in es) ≤ occ v (unmarked es) → occ v (if_wrapped m w ++ wrapped_in es) ≤ occ v (w ∷ unmarked es)
    by plain w h = omega (arith, h)
    by crossing w h = omega (arith, h)
    by wrapped w h = omega (arith, h)

wrapped_there : (v : ℕ) (cs : List (List Entry)) → occ v (all_wrapped cs) ≤ occ v (all_entries cs)
unfolding all_wrapped all_entries
wrapped_there v [] = omega arith
wrapped_there v (c ∷ cs) =
    omega (arith, occ_append v (wrapped_in c) (all_wrapped cs), occ_append v (unmarked c) (all_entries cs), cell_wrapped_there v c, wrapped_there v cs)

module _ (nc : ℕ) (cells : List (List Entry)) where
  -- corner i is with its owner still, or was wrapped
  abbrev LeftOrWrapped : ℕ → ℕ → Type 0
  LeftOrWrapped i o = (o ≢ EMPTY) ⊎ ((o ≡ EMPTY) × (occ (nc + i) (all_wrapped cells) ≡ 1))

  pub lost_left_lem : (os : List ℕ) (i : ℕ) → ((c : ℕ) → c < length os → LeftOrWrapped (i + c) (get_or os c 0)) → lost_from (nc + i) (length os) cells ≡ lost_left (nc + i) os (all_entries cells)
  unfolding lost_from
  lost_left_lem [] i h = refl
  lost_left_lem (o ∷ os) i h =
      let rest : lost_from (nc + suc i) (length os) cells ≡ lost_left (nc + suc i) os (all_entries cells) =
      lost_left_lem os (suc i) (λ c l. let q : suc i + c ≡ i + suc c = omega arith in rw q (h (suc c) (omega arith))) in
      let q : nc + suc i ≡ suc (nc + i) = omega arith in
      let rest₁ : lost_from (suc (nc + i)) (length os) cells ≡ lost_left (suc (nc + i)) os (all_entries cells) = rw q at rest in
      ⊎_elim
      (λ w. rw (ne_eqb o EMPTY w, rest₁))
      (λ w. rw (eq-eqb o EMPTY w.0, ne_eqb (occ (nc + i) (all_entries cells)) 0 (omega (arith, w.1, wrapped_there (nc + i) cells)), rest₁))
      (rw (add-zero i) at (h 0 (omega arith)))
