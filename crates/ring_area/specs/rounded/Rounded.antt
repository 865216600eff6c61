-- What the steps from a long number to the nearest value owe each other; n counts units of 2 ^ -2149, and 2 ^ 1075 of these are the smallest value. Definitions only.
use Rattle.std.specs.Prelude.{◌≡◌, Bool, List, ℕ, ◌+◌, ◌-◌, ◌*◌, ◌/◌, ◌%◌, ◌^◌, ◌≤◌, ◌<◌, eqb, length, get_or}
use Rattle.std.specs.Float.Ieee.Order.{drop, kept}
use Rattle.base.specs.common.Decide.{Says}
use Rattle.base.specs.common.Pick.{pick}

-- the limbs from n on are 0, and the one below is not
pub record UpTo (l : List ℕ) (n : ℕ) : Type 0 where
  pub within : n ≤ length l
  pub none : (k : ℕ) → n ≤ k → get_or l k 0 ≡ 0
  pub some : 0 < n → 0 < get_or l (n - 1) 0

-- n without its lowest t bits, and whether these are 0
pub record LeadingBits (n t whole : ℕ) (exact : Bool) : Type 0 where
  pub bits : whole ≡ n / 2 ^ t
  pub rest : Says exact (n % 2 ^ t ≡ 0)
  pub small : whole < 2 ^ 54

-- half of q to the nearest whole number; a tie, where nothing is below, to the even one
unfoldable pub halved_of : ℕ → Bool → ℕ
halved_of q exact = pick (eqb (q % 2) 0) (λ _. q / 2) (λ _. pick exact (λ _. q / 2 + q / 2 % 2) (λ _. q / 2 + 1))

-- the pattern, but for its sign: how many digits are dropped, and the number that is kept
abbrev pub rounded_pattern : ℕ → ℕ
rounded_pattern n = drop 53 n (2 ^ 1075) * 2 ^ 52 + kept 53 n (2 ^ 1075)
