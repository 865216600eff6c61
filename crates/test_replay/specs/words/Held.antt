-- What the lent slices must hold by the stored words: after an accepted build, after a refusal, after a list was asked for.
use Rattle.std.specs.Prelude.{◌≡◌, List, ℕ, ◌*◌, ltb, Float, length, get_or}
use Rattle.std.specs.Float.{nan}
use Rattle.base.specs.common.Pick.{pick}
use Rattle.base.specs.numbers.Numbers.{EMPTY, refused_triangle}
use Rattle.test_replay.specs.words.Words.{word_of, after_of, expected_of, expected_bits_of, bits_of, Has}

-- a slice has the n words, or floats, from word k on, then `rest` to its end
abbrev pub HasWords : List ℕ → List ℕ → ℕ → ℕ → ℕ → Type 0
HasWords l b k n rest = Has (length l) (λ i. get_or l i 0) (λ i. expected_of b k n i rest) n

abbrev pub HasFloats : List Float → List ℕ → ℕ → ℕ → ℕ → Type 0
HasFloats l b k n rest = Has (length l) (λ i. bits_of (get_or l i nan)) (λ i. expected_bits_of b k n i rest) n

-- where the parts of an accepted build of n sites stand, whose counts stand from word k on: the table, the points, the offsets, the last of them
abbrev pub table_place : ℕ → ℕ
table_place k = after_of k 9

abbrev pub points_place : ℕ → ℕ → ℕ
points_place k n = after_of (table_place k) n

abbrev pub starts_place : List ℕ → ℕ → ℕ → ℕ
starts_place b k n = after_of (points_place k n) (4 * word_of b k)

abbrev pub end_place : List ℕ → ℕ → ℕ → ℕ
end_place b k n = after_of (starts_place b k n) n

-- after an accepted build: every slice, to its last element
pub record BuildHeld (b : List ℕ) (k : ℕ) (work : List ℕ) (vertices : List Float) (indexes offsets counts : List ℕ) : Type 0 where
  pub numbers : HasWords counts b k 9 EMPTY
  pub table : HasWords work b (table_place k) (length work) EMPTY
  pub points : HasFloats vertices b (points_place k (length work)) (2 * word_of b k) 0
  pub starts : HasWords offsets b (starts_place b k (length work)) (length offsets) EMPTY
  pub entries : HasWords indexes b (after_of (end_place b k (length work)) 1) (word_of b (end_place b k (length work))) EMPTY

-- what a slice holds throughout after a refusal: what it held before the call (7, and the float 7.0) up to rule 6, and EMPTY or +0 from rule 7 on
unfoldable pub refused_rest : ℕ → ℕ
refused_rest number = pick (ltb number refused_triangle) (λ _. 7) (λ _. EMPTY)

unfoldable pub refused_bits : ℕ → ℕ
refused_bits number = pick (ltb number refused_triangle) (λ _. 0x401C_0000_0000_0000) (λ _. 0)

pub record RefusedHeld (number : ℕ) (b work : List ℕ) (vertices : List Float) (indexes offsets counts : List ℕ) : Type 0 where
  pub numbers : HasWords counts b 0 0 (refused_rest number)
  pub table : HasWords work b 0 0 (refused_rest number)
  pub points : HasFloats vertices b 0 0 (refused_bits number)
  pub starts : HasWords offsets b 0 0 (refused_rest number)
  pub entries : HasWords indexes b 0 0 (refused_rest number)

-- a call was accepted and wrote the list stored from word q on, its length and its entries, to its end; what is past it is as before the call
pub record ListHeld (out b : List ℕ) (q number count ended : ℕ) : Type 0 where
  pub accepted : number ≡ 0
  pub whole : ended ≡ 1
  pub long : count ≡ word_of b q
  pub entries : HasWords out b (after_of q 1) (word_of b q) 7

-- the place after the list whose length stands at word q
unfoldable pub after_list_of : List ℕ → ℕ → ℕ
after_list_of b q = after_of (after_of q 1) (word_of b q)
