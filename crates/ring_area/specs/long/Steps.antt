-- What the steps on long numbers owe each other. Definitions only.
use Rattle.std.specs.Prelude.{◌≡◌, List, ℕ, ◌+◌, ◌*◌, ◌^◌, ◌≤◌, length, get_or}
use Rattle.ring_area.specs.long.Amount.{base, amount, weight, WholeLimbs}

-- n more puts have room: one puts less than 2 ^ 32 into any limb
pub record PutRoom (l : List ℕ) (n : ℕ) : Type 0 where
  pub each : (k : ℕ) → get_or l k 0 + n * base ≤ 2 ^ 63

-- n more in all, in as many limbs, by so many puts; none reaches the highest limb, so that fewer than 2 ^ 32 of them fit
pub record PutIn (before after : List ℕ) (n puts : ℕ) : Type 0 where
  pub total : amount after ≡ amount before + n
  pub long : length after ≡ length before
  pub grown : (k : ℕ) → get_or after k 0 ≤ get_or before k 0 + puts * base
  pub most : base * n ≤ puts * weight (length before)

-- the carries settled, out of the last limb c
pub record Carried (before after : List ℕ) (c : ℕ) : Type 0 where
  pub total : amount after + c * weight (length before) ≡ amount before
  pub settled : WholeLimbs after
  pub long : length after ≡ length before

-- a less b; r is what had to be borrowed from past the last limb
pub record Differs (a b before after : List ℕ) (r : ℕ) : Type 0 where
  pub total : amount after + amount b ≡ amount a + r * weight (length before)
  pub settled : WholeLimbs after
  pub long : length after ≡ length before
  pub borrowed : r ≤ 1
