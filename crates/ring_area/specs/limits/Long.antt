-- What the steps on long numbers of 94 limbs owe each other. Definitions only.
use Rattle.std.specs.Prelude.{◌≡◌, List, ℕ, ◌/◌, length}
use Rattle.ring_area.specs.long.Amount.{amount, WholeLimbs}

-- divided by d
pub record Divided (before after : List ℕ) (d : ℕ) : Type 0 where
  pub value : amount after ≡ amount before / d
  pub settled : WholeLimbs after
  pub long : length after ≡ length before

-- n in 94 settled limbs
pub record LongOf (l : List ℕ) (n : ℕ) : Type 0 where
  pub value : amount l ≡ n
  pub settled : WholeLimbs l
  pub long : length l ≡ 94
