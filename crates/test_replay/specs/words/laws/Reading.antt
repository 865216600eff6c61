-- Stored words as the code reads them, and the loops that compare and load them: all places before i are as they must be.
use Rattle.std.specs.Prelude.{◌≡◌, refl, List, [], ◌∷◌, true, false, ℕ, zero, suc, ◌+◌, ◌*◌, ◌%◌, ◌≤◌, ◌<◌, Float, length, get_or, set}
use Rattle.std.proofs.Common.{ap, ◌∙◌, ⊎_elim, arith, length-set, get_or-set_same, get_or-set_other, le-leb, lt-ltb, le-ltb}
use Rattle.std.specs.Float.{nan, binary64}
use Rattle.std.specs.Float.Ieee.{ne, of_bits, to_bits}
use Rattle.std.proofs.lemmas.Bool.{lt-leb}
use Rattle.base.specs.common.laws.Decide.{eq_or_ne}
use Rattle.test_replay.specs.words.Words.{word_of, after_of, expected_of, pattern_of, float_of, bits_of, place_of, expected_bits_of}

pub past_end : (b : List ℕ) (at : ℕ) → length b ≤ at → 0 ≡ get_or b at 0
past_end [] zero h = refl
past_end [] (suc at) h = refl
past_end (x ∷ b) zero h = absurd (omega arith)
past_end (x ∷ b) (suc at) h = past_end b at (omega arith)

pub word_none : (b : List ℕ) (k : ℕ) → 1024 ≤ k → 0 ≡ word_of b k
unfolding word_of
word_none b k h = rw (le-leb 1024 k h)

pub word_some : (b : List ℕ) (k x y z w : ℕ) → k < 1024 → x ≡ get_or b (4 * k) 0 → y ≡ get_or b (4 * k + 1) 0 → z ≡ get_or b (4 * k + 2) 0
    → w ≡ get_or b (4 * k + 3) 0 → x + y * 256 + z * 65536 + w * 16777216 ≡ word_of b k
unfolding word_of
word_some b k x y z w h p q r s = rw (lt-leb 1024 k h, p, q, r, s)

pub after_end : (k n : ℕ) → 1024 ≤ k → 1024 ≡ after_of k n
unfolding after_of
after_end k n h = rw (le-leb 1024 k h)

pub after_far : (k n : ℕ) → k < 1024 → 1024 ≤ n → 1024 ≡ after_of k n
unfolding after_of
after_far k n h g = rw (lt-leb 1024 k h, le-leb 1024 n g)

pub after_near : (k n : ℕ) → k < 1024 → n < 1024 → k + n ≡ after_of k n
unfolding after_of
after_near k n h g = rw (lt-leb 1024 k h, lt-leb 1024 n g)

pub expected_word : (b : List ℕ) (k n i rest w a : ℕ) → i < n → a ≡ after_of k i → w ≡ word_of b a → w ≡ expected_of b k n i rest
unfolding expected_of
expected_word b k n i rest w a h q r = rw (lt-ltb i n h) (r ∙ ap (word_of b) q)

pub expected_rest : (b : List ℕ) (k n i rest : ℕ) → n ≤ i → rest ≡ expected_of b k n i rest
unfolding expected_of
expected_rest b k n i rest h = rw (le-ltb i n h)

pub float_nan : (p : ℕ) → 0x7FF0_0000_0000_0000 < p % 0x8000_0000_0000_0000 → nan ≡ float_of p
unfolding float_of
float_nan p h = rw (lt-ltb _ _ h)

pub float_number : (p : ℕ) → p % 0x8000_0000_0000_0000 ≤ 0x7FF0_0000_0000_0000 → of_bits binary64 p ≡ float_of p
unfolding float_of
float_number p h = rw (le-ltb _ _ h)

pub bits_nan : (x : Float) → ne x x ≡ true → 0x7FF8_0000_0000_0000 ≡ bits_of x
unfolding bits_of
bits_nan x h = rw h

pub bits_number : (x : Float) → ne x x ≡ false → to_bits binary64 x ≡ bits_of x
unfolding bits_of
bits_number x h = rw h

pub two_words : (b : List ℕ) (k a x y : ℕ) → x ≡ word_of b k → a ≡ after_of k 1 → y ≡ word_of b a → x + y * 4294967296 ≡ pattern_of b k
two_words b k a x y p q r = rw (p, r, q)

pub expected_pattern : (b : List ℕ) (k n i rest w : ℕ) → i < n → w ≡ pattern_of b (place_of k i) → w ≡ expected_bits_of b k n i rest
unfolding expected_bits_of
expected_pattern b k n i rest w h r = rw (lt-ltb i n h) r

pub expected_bits_rest : (b : List ℕ) (k n i rest : ℕ) → n ≤ i → rest ≡ expected_bits_of b k n i rest
unfolding expected_bits_of
expected_bits_rest b k n i rest h = rw (le-ltb i n h)

-- ---- comparing

module _ (long : ℕ) (value expected : ℕ → ℕ) (n : ℕ) where
  abbrev pub Same : ℕ → Type 0
  Same i = (j : ℕ) → j < i → value j ≡ expected j

-- ---- loading

module _ {A : Type 0} (d : A) (value : ℕ → A) (old : List A) where
  pub record Loading (l : List A) (i : ℕ) : Type 0 where
    pub few : i ≤ length l
    pub long : length l ≡ length old
    pub each : (j : ℕ) → j < i → get_or l j d ≡ value j

  pub loading_next : (l : List A) (i : ℕ) (w : A) → i < length l → Loading l i → w ≡ value i → Loading (set l i w) (i + 1)
  loading_next l i w h g r = record {
    few = rw (length-set l i w) (omega arith);
    long = length-set l i w ∙ g.long;
    each = λ j m. ⊎_elim
        (λ z. rw z (get_or-set_same l i w d h ∙ r))
        (λ z. get_or-set_other l i j w d z ∙ g.each j (omega arith))
        (eq_or_ne j i);
  }
