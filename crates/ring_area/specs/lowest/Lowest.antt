-- The lowest number below n that a test takes, or n. Definitions only.
use Rattle.std.specs.Prelude.{Bool, ℕ, zero, suc, ltb}
use Rattle.base.specs.common.Pick.{pick}

-- of n numbers from i on
unfoldable pub lowest_from : (ℕ → Bool) → ℕ → ℕ → ℕ
lowest_from p i zero = i
lowest_from p i (suc n) = pick (p i) (λ _. i) (λ _. lowest_from p (suc i) n)

abbrev pub lowest : (ℕ → Bool) → ℕ → ℕ
lowest p n = lowest_from p 0 n

-- whether there is one
abbrev pub any_below : (ℕ → Bool) → ℕ → Bool
any_below p n = ltb (lowest p n) n
