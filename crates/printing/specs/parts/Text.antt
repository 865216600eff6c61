-- Text as bytes: ASCII, and a number in decimal digits. Definitions only.
use Rattle.std.specs.Prelude.{◌≡◌, List, [], ◌∷◌, ◌++◌, ℕ, zero, suc, ◌+◌, ◌-◌, ◌*◌, ◌/◌, ◌%◌, ◌≤◌, ◌<◌, ltb, length, get_or}
use Prim.Native.Char.{code}
use Prim.Native.String.{String, [] as []ˢ, ◌∷◌ as ◌∷ˢ◌}
use Rattle.base.specs.common.Pick.{pick}

abbrev pub ascii : String → List ℕ
ascii []ˢ = []
ascii (c ∷ˢ s) = code c ∷ ascii s

-- 48 is the digit 0; k places are enough for n
unfoldable pub digits : ℕ → ℕ → List ℕ
digits zero n = []
digits (suc k) n = pick (ltb n 10) (λ _. (48 + n) ∷ []) (λ _. digits k (n / 10) ++ (48 + n % 10) ∷ [])

-- of a number of 32 bits, which ten places hold
unfoldable pub decimal : ℕ → List ℕ
decimal n = digits 10 n

-- ---- what the digits of a number are, however they were made (`is_decimal` of laws/Decimal: `decimal` gives them)

abbrev pub Digits : List ℕ → Type 0
Digits [] = Unit {0}
Digits (c ∷ s) = (48 ≤ c) × (c ≤ 57) × Digits s

-- read from the left
abbrev pub value : ℕ → List ℕ → ℕ
value v [] = v
value v (c ∷ s) = value (v * 10 + (c - 48)) s

pub record Decimal (n : ℕ) (s : List ℕ) : Type 0 where
  pub digits : Digits s
  pub value : value 0 s ≡ n
  pub lead : 10 ≤ n → 48 < get_or s 0 0
  pub some : 0 < length s
  pub few : length s ≤ 10
