-- Bytes in hexadecimal digits, lower case: how they are written, and what digits are read as. Definitions only.
use Rattle.std.specs.Prelude.{Bool, true, ◌&&◌, List, [], ◌∷◌, ℕ, ◌+◌, ◌-◌, ◌*◌, ◌/◌, ◌%◌, ltb}
use Rattle.base.specs.common.Pick.{pick}

-- 48 is the digit 0, 97 the digit a
abbrev pub hex_digit : ℕ → ℕ
hex_digit n = pick (ltb n 10) (λ _. 48 + n) (λ _. 87 + n)

unfoldable pub hex : List ℕ → List ℕ
hex [] = []
hex (b ∷ s) = hex_digit (b / 16) ∷ hex_digit (b % 16) ∷ hex s

-- what a digit is worth; 16 is no digit
unfoldable pub digit_value : ℕ → ℕ
digit_value d =
    pick (ltb d 48) (λ _. 16)
    (λ _. pick (ltb d 58) (λ _. d - 48)
    (λ _. pick (ltb d 97) (λ _. 16)
    (λ _. pick (ltb d 103) (λ _. d - 87) (λ _. 16))))

abbrev pub all_hex : List ℕ → Bool
all_hex [] = true
all_hex (d ∷ s) = ltb (digit_value d) 16 && all_hex s

-- the byte of two digits
abbrev pub byte_of : ℕ → ℕ → ℕ
byte_of high low = digit_value high % 16 * 16 + digit_value low % 16

-- the bytes of digits, two by two
abbrev pub unhex : List ℕ → List ℕ
unhex [] = []
unhex (a ∷ []) = []
unhex (a ∷ b ∷ s) = byte_of a b ∷ unhex s
