-- Counting the lost corners: those counted and those still to come are all of them.
use Rattle.std.specs.Prelude.{◌≡◌, refl, true, false, List, [], ◌∷◌, ◌≢◌, ℕ, suc, ◌+◌, ◌≤◌, ◌<◌, length, get_or, drop}
use Rattle.std.proofs.Common.{ap, zero-add, add-zero, add-one, arith, length-drop, drop-cons, ltb-true, ltb-false, eq-eqb, ne_eqb}
use Rattle.base.specs.common.Count.{occ}
use Rattle.base.specs.numbers.Numbers.{EMPTY}
use Rattle.walks.specs.shared.Cells.{holds_of}
use Rattle.definition.specs.Measures.{if_lost, lost_left}

-- ---- one corner
module _ (v o : ℕ) (l : List ℕ) where
  pub not_struck : o ≡ EMPTY → (0 ≡ if_lost v o l) × (0 ≤ 1)
  not_struck q = rw (eq-eqb o EMPTY q) (refl, omega arith)

  pub not_held : o ≢ EMPTY → holds_of l v ≡ true → (0 ≡ if_lost v o l) × (0 ≤ 1)
  not_held q h = rw (ne_eqb o EMPTY q, ne_eqb (occ v l) 0 (omega (arith, ltb-true 0 (occ v l) h))) (refl, omega arith)

  pub lost_one : o ≢ EMPTY → holds_of l v ≡ false → (1 ≡ if_lost v o l) × (1 ≤ 1)
  lost_one q h = rw (ne_eqb o EMPTY q, eq-eqb (occ v l) 0 (omega (arith, ltb-false 0 (occ v l) h))) (refl, omega arith)

-- ---- four corners
module _ (first : ℕ) (left l : List ℕ) where
  pub lost_start : 0 + lost_left (first + 0) (drop 0 left) l ≡ lost_left first left l
  lost_start = rw (add-zero first) (zero-add (lost_left first left l))

  pub lost_step : (k n r : ℕ) → k < length left → n + lost_left (first + k) (drop k left) l ≡ lost_left first left l → r ≡ if_lost (first + k) (get_or left k 0) l
      → n + r + lost_left (first + (k + 1)) (drop (k + 1) left) l ≡ lost_left first left l
  lost_step k n r h all q =
      let e : lost_left (first + k) (drop k left) l ≡ if_lost (first + k) (get_or left k 0) l + lost_left (suc (first + k)) (drop (suc k) left) l =
      ap (λ (os : List ℕ). lost_left (first + k) os l) (drop-cons left k 0 h) in
      let z : first + suc k ≡ suc (first + k) = omega arith in
      rw (add-one k, z) (omega (arith, all, q, e))

  none : (v : ℕ) (os : List ℕ) → length os ≡ 0 → lost_left v os l ≡ 0
  none v [] q = refl
  none v (o ∷ os) q = absurd (omega arith)

  pub lost_all : (k n : ℕ) → length left ≤ k → n + lost_left (first + k) (drop k left) l ≡ lost_left first left l → n ≡ lost_left first left l
  lost_all k n h all = omega (arith, all, none (first + k) (drop k left) (omega (arith, length-drop k left)))
