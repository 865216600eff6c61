-- Of four corners at most one site owns three: where the first two have one owner it is that one, else the third's.
use Rattle.std.specs.Prelude.{◌≡◌, List, [], ◌∷◌, ◌≢◌, ℕ, ◌≤◌, length, get_or}
use Rattle.std.proofs.Common.{sym, ◌∙◌, ⊎_elim, arith}
use Rattle.base.specs.common.Count.{same, occ}
use Rattle.base.specs.common.laws.Count.{same_cases}
use Rattle.definition.proofs.laws.Puts.{same_other}

same_most : (v x : ℕ) → same v x ≤ 1
same_most v x = ⊎_elim (λ w. omega (arith, w.1)) (λ w. omega (arith, w.1)) (same_cases v x)

four_only : (P : List ℕ → Type 0) → ((a b c d : ℕ) → P (a ∷ b ∷ c ∷ d ∷ [])) → (os : List ℕ) → length os ≡ 4 → P os
four_only P h [] q = absurd (omega (arith, q))
four_only P h (a ∷ []) q = absurd (omega (arith, q))
four_only P h (a ∷ b ∷ []) q = absurd (omega (arith, q))
four_only P h (a ∷ b ∷ c ∷ []) q = absurd (omega (arith, q))
four_only P h (a ∷ b ∷ c ∷ d ∷ []) q = h a b c d
four_only P h (a ∷ b ∷ c ∷ d ∷ e ∷ l) q = absurd (omega (arith, q))

pub crowd_first : (os : List ℕ) → length os ≡ 4 → get_or os 0 0 ≡ get_or os 1 0 → (s : ℕ) → s ≢ get_or os 0 0 → occ s os ≤ 2
crowd_first os four =
    four_only (λ (l : List ℕ). get_or l 0 0 ≡ get_or l 1 0 → (s : ℕ) → s ≢ get_or l 0 0 → occ s l ≤ 2)
    (λ a b c d e s n. omega (arith, same_other s a n, same_other s b (λ z. n (z ∙ sym e)), same_most s c, same_most s d)) os four

pub crowd_third : (os : List ℕ) → length os ≡ 4 → get_or os 0 0 ≢ get_or os 1 0 → (s : ℕ) → s ≢ get_or os 2 0 → occ s os ≤ 2
crowd_third os four =
    four_only (λ (l : List ℕ). get_or l 0 0 ≢ get_or l 1 0 → (s : ℕ) → s ≢ get_or l 2 0 → occ s l ≤ 2)
    (λ a b c d e s n. ⊎_elim
    (λ w. omega (arith, same_most s a, same_other s b (λ z. e (sym w.0 ∙ z)), same_other s c n, same_most s d))
    (λ w. omega (arith, w.1, same_most s b, same_other s c n, same_most s d))
    (same_cases s a)) os four
