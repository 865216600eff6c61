-- How often a number stands in a list of numbers, and a sum of numbers.
use Rattle.std.specs.Prelude.{List, [], ◌∷◌, ℕ, zero, suc, ◌+◌, eqb}
use Rattle.base.specs.common.Pick.{pick}

unfoldable pub same : ℕ → ℕ → ℕ
same v x = pick (eqb v x) (λ _. 1) (λ _. 0)

-- how often v stands in the list
abbrev pub occ : ℕ → List ℕ → ℕ
occ v [] = 0
occ v (x ∷ l) = same v x + occ v l

-- the numbers u k for k below n, added up
abbrev pub sum_to : (ℕ → ℕ) → ℕ → ℕ
sum_to u zero = 0
sum_to u (suc n) = sum_to u n + u n
