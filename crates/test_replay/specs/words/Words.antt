-- The stored words: little-endian, 0 past the record's end and past the longest record; and slices that hold them.
use Rattle.std.specs.Prelude.{◌≡◌, List, ℕ, ◌+◌, ◌*◌, ◌%◌, ◌≤◌, ◌<◌, leb, ltb, Float, length, get_or}
use Rattle.std.specs.Float.{nan, binary64}
use Rattle.std.specs.Float.Ieee.{ne, of_bits, to_bits}
use Rattle.base.specs.common.Pick.{pick}

-- word k of a record of bytes, which has at most 1,024 words
unfoldable pub word_of : List ℕ → ℕ → ℕ
word_of b k =
    pick (leb 1024 k) (λ _. 0)
    (λ _. get_or b (4 * k) 0 + get_or b (4 * k + 1) 0 * 256 + get_or b (4 * k + 2) 0 * 65536 + get_or b (4 * k + 3) 0 * 16777216)

-- the place n words after k, or the end
unfoldable pub after_of : ℕ → ℕ → ℕ
after_of k n = pick (leb 1024 k) (λ _. 1024) (λ _. pick (leb 1024 n) (λ _. 1024) (λ _. k + n))

-- what stands at place i of a slice that has the n words from k on, then `rest`
unfoldable pub expected_of : List ℕ → ℕ → ℕ → ℕ → ℕ → ℕ
expected_of b k n i rest = pick (ltb i n) (λ _. word_of b (after_of k i)) (λ _. rest)

-- words k and the next as one pattern, and as a float; the language has one NaN
abbrev pub pattern_of : List ℕ → ℕ → ℕ
pattern_of b k = word_of b k + word_of b (after_of k 1) * 4294967296

unfoldable pub float_of : ℕ → Float
float_of p = pick (ltb 0x7FF0_0000_0000_0000 (p % 0x8000_0000_0000_0000)) (λ _. nan) (λ _. of_bits binary64 p)

unfoldable pub bits_of : Float → ℕ
bits_of x = pick (ne x x) (λ _. 0x7FF8_0000_0000_0000) (λ _. to_bits binary64 x)

-- float i of those from word k on, and its pattern in a slice that has n of them, then `rest`
abbrev pub place_of : ℕ → ℕ → ℕ
place_of k i = after_of (after_of k i) i

unfoldable pub expected_bits_of : List ℕ → ℕ → ℕ → ℕ → ℕ → ℕ
expected_bits_of b k n i rest = pick (ltb i n) (λ _. pattern_of b (place_of k i)) (λ _. rest)

-- a slice of so many places has at each of them what is expected, and there are n of them at least
pub record Has (long : ℕ) (value expected : ℕ → ℕ) (n : ℕ) : Type 0 where
  pub room : n ≤ long
  pub each : (i : ℕ) → i < long → value i ≡ expected i

-- l, which was old, has been filled with these values
pub record Loaded {A : Type 0} (d : A) (value : ℕ → A) (old l : List A) : Type 0 where
  pub long : length l ≡ length old
  pub each : (i : ℕ) → i < length l → get_or l i d ≡ value i
