-- Theorem: what is read is what is written: the bytes of digits are the bytes that these digits were made of.
use Rattle.std.specs.Prelude.{◌≡◌, refl, List, [], ◌∷◌, ℕ, ◌+◌, ◌*◌, ◌/◌, ◌%◌, ◌≤◌, ◌<◌}
use Rattle.std.proofs.Common.{ap₂, ◌∙◌, ⊎_elim, arith, lt-ltb, le-ltb}
use Rattle.base.specs.common.laws.Decide.{lt_or_ge}
use Rattle.octets.specs.Bytes.{Bytes}
use Rattle.octets.specs.hex.Hex.{hex_digit, hex, digit_value, byte_of, unhex}

worth : (n : ℕ) → n < 16 → digit_value (hex_digit n) ≡ n
unfolding digit_value
worth n h = ⊎_elim low high (lt_or_ge n 10)
  where
    low : n < 10 → digit_value (hex_digit n) ≡ n
    low l =
        rw (lt-ltb n 10 l)
        (rw (le-ltb (48 + n) 48 (omega arith), lt-ltb (48 + n) 58 (omega arith)) (omega arith))

    high : 10 ≤ n → digit_value (hex_digit n) ≡ n
    high g =
        rw (le-ltb n 10 g)
        (rw (le-ltb (87 + n) 48 (omega arith), le-ltb (87 + n) 58 (omega arith), le-ltb (87 + n) 97 (omega arith), lt-ltb (87 + n) 103 (omega arith)) (omega arith))

byte_back : (b : ℕ) → b < 256 → byte_of (hex_digit (b / 16)) (hex_digit (b % 16)) ≡ b
byte_back b h =
    ap₂ (λ (x y : ℕ). x % 16 * 16 + y % 16) (worth (b / 16) (omega arith)) (worth (b % 16) (omega arith)) ∙ omega arith

pub read_back : (s : List ℕ) → Bytes s → unhex (hex s) ≡ s
unfolding hex
read_back [] h = refl
read_back (b ∷ s) h = ap₂ (λ (c : ℕ) (t : List ℕ). c ∷ t) (byte_back b h.0) (read_back s h.1)
