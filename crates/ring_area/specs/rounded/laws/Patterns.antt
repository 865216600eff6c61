-- From the number kept and the digits dropped to the pattern, and that this is the rounded value.
use Rattle.std.specs.Prelude.{◌≡◌, Bool, not, cond, T, Float}
use Rattle.std.proofs.Common.{sym, ap, ◌∙◌, subst, ⊎_elim, le_trans, le_of_eq, le_antisymm, lt_of_lt_of_le, lt_of_le_of_lt, mul-one, mul_assoc, mul-le-mul_right, mul-pos, mul-div_cancel, le-div_iff_mul-le, div-one, arith, lit<, lit≤, pow-add, pow_pos, pow_mono, shl_lt}
use Prim.Native.Nat.{ℕ, suc, ◌+◌, ◌-◌, ◌*◌, ◌/◌, ◌%◌, ◌^◌, ◌≤◌, ◌<◌, compare}
use Rattle.std.proofs.Math.Nat.{div-div-eq-div-mul}
use Rattle.std.proofs.Math.Arith.{le→nltb}
use Rattle.std.proofs.Math.Pow.{pow-lt}
use Rattle.std.proofs.lemmas.Nat.{shl-shr}
use Rattle.std.specs.Float.{nan, inf, fin, binary64}
use Rattle.std.specs.Float.Ieee.{up, down, size, round, to_bits, of_bits, nan_bits}
use Rattle.std.specs.Float.Ieee.Bits.{of_bits-to_bits, nan_bits_above}
use Rattle.std.specs.Float.Ieee.Digits.{size-lt, size-le, size_reaches}
use Rattle.std.specs.Float.Ieee.Exact.{HasValue}
use Rattle.std.specs.Float.Ieee.Fits.{down_pos, kept-lt, nearest-le, round-fits}
use Rattle.std.specs.Float.Ieee.Nearest.{closest, closest_same, div_same, nearest-ge}
use Rattle.std.specs.Float.Ieee.Order.{drop, kept}
use Rattle.std.specs.Float.Ieee.Scale.{grid, overflow}
use Rattle.base.specs.common.laws.Decide.{lt_or_ge, eq_or_ne}
use Rattle.root.specs.laws.Rounding.{round_has}
use Rattle.ring_area.specs.rounded.Rounded.{rounded_pattern, halved_of, LeadingBits}
use Rattle.ring_area.specs.rounded.laws.Sizes.{size_is, size_shift}
use Rattle.ring_area.specs.rounded.laws.Halves.{closest_halved}

-- ---- the pattern of q * 2 ^ k smallest values
abbrev bits_of : ℕ → ℕ
bits_of n = (size n - 53) * 2 ^ 52 + n / 2 ^ (size n - 53)

of_size : (n z : ℕ) → size n ≡ z → bits_of n ≡ (z - 53) * 2 ^ 52 + n / 2 ^ (z - 53)
of_size n z e = ap (λ (x : ℕ). (x - 53) * 2 ^ 52 + n / 2 ^ (x - 53)) e

bits_low : (q : ℕ) → q < 2 ^ 52 → bits_of (q * 2 ^ 0) ≡ 0 * 2 ^ 52 + q
bits_low q h =
    let s : size (q * 1) ≤ 52 = size-le (q * 1) 52 (lt_of_le_of_lt (le_of_eq (mul-one q)) h) in
    let z : size (q * 1) - 53 ≡ 0 = few (size (q * 1)) s in
    ap (λ (x : ℕ). x * 2 ^ 52 + q * 1 / 2 ^ x) z ∙ ap (λ (x : ℕ). 0 * 2 ^ 52 + x) (div-one (q * 1) ∙ mul-one q)
  where
    few : (z : ℕ) → z ≤ 52 → z - 53 ≡ 0
    few z h = omega arith

bits_mid : (q k : ℕ) → 2 ^ 52 ≤ q → q < 2 ^ 53 → bits_of (q * 2 ^ k) ≡ k * 2 ^ 52 + q
bits_mid q k l h =
    let low : 2 ^ (52 + k) ≤ q * 2 ^ k = le_trans (le_of_eq (pow-add 2 52 k)) (mul-le-mul_right (2 ^ k) l) in
    let s : size (q * 2 ^ k) ≡ suc (52 + k) = size_is (q * 2 ^ k) (52 + k) low (subst (λ (x : ℕ). q * 2 ^ k < 2 ^ x) (one_more k) (shl_lt 53 k h)) in
    of_size (q * 2 ^ k) (suc (52 + k)) s
    ∙ ap (λ (x : ℕ). x * 2 ^ 52 + q * 2 ^ k / 2 ^ x) (off k)
    ∙ ap (λ (x : ℕ). k * 2 ^ 52 + x) (shl-shr q k)
  where
    one_more : (k : ℕ) → 53 + k ≡ suc (52 + k)
    one_more k = omega arith

    off : (k : ℕ) → suc (52 + k) - 53 ≡ k
    off k = omega arith

bits_top : (k : ℕ) → bits_of (2 ^ 53 * 2 ^ k) ≡ k * 2 ^ 52 + 2 ^ 53
bits_top k =
    let n = 2 ^ 53 * 2 ^ k in
    let e : n ≡ 2 ^ 52 * 2 ^ suc k = sym (pow-add 2 53 k) ∙ ap (λ (x : ℕ). 2 ^ x) (one_up k) ∙ pow-add 2 52 (suc k) in
    ap bits_of e ∙ bits_mid (2 ^ 52) (suc k) (lit≤ tt) (lit< tt) ∙ count k
  where
    one_up : (k : ℕ) → 53 + k ≡ 52 + suc k
    one_up k = omega arith

    count : (k : ℕ) → suc k * 2 ^ 52 + 2 ^ 52 ≡ k * 2 ^ 52 + 2 ^ 53
    count k = omega arith

pub bits_are : (q k : ℕ) → q ≤ 2 ^ 53 → (0 < k → 2 ^ 52 ≤ q) → bits_of (q * 2 ^ k) ≡ k * 2 ^ 52 + q
bits_are q k h n = ⊎_elim low (λ l. ⊎_elim (bits_mid q k l) (top l) (lt_or_ge q (2 ^ 53))) (lt_or_ge q (2 ^ 52))
  where
    low : q < 2 ^ 52 → bits_of (q * 2 ^ k) ≡ k * 2 ^ 52 + q
    low l = ⊎_elim (λ z. rw z (bits_low q l)) (λ z. absurd (no z)) (eq_or_ne k 0)
      where
        no : (k ≡ 0 → ⊥) → ⊥
        no z = let b : 2 ^ 52 ≤ q = n (⊎_elim (λ y. absurd (z (omega arith))) (λ y. omega arith) (lt_or_ge k 1)) in omega arith

    top : 2 ^ 52 ≤ q → 2 ^ 53 ≤ q → bits_of (q * 2 ^ k) ≡ k * 2 ^ 52 + q
    top l g = let e : q ≡ 2 ^ 53 = le_antisymm h g in rw e (bits_top k)

-- ---- what is kept, and what is dropped
module _ (n c : ℕ) where
  pub kept_most : kept 53 n c ≤ 2 ^ 53
  kept_most =
      let k = drop 53 n c in
      let u = c * 2 ^ k in
      le_trans (nearest-le (n / u) (compare (n % u * 2) u)) (subst (λ (x : ℕ). x < 2 ^ 53) (div-div-eq-div-mul n c (2 ^ k)) (kept-lt 53 (n / c)))

  pub kept_least : 0 < drop 53 n c → 2 ^ 52 ≤ kept 53 n c
  kept_least K =
      let k = drop 53 n c in
      let u = c * 2 ^ k in
      let w = n / c in
      let a : 2 ^ 52 * 2 ^ k ≤ w = le_trans (le_of_eq (sym (pow-add 2 52 k))) (size_reaches w (52 + k) (all (size w) K)) in
      le_trans (subst (λ (x : ℕ). 2 ^ 52 ≤ x) (div-div-eq-div-mul n c (2 ^ k)) ((le-div_iff_mul-le (pow_pos k)).1 a)) (nearest-ge (n / u) (compare (n % u * 2) u))
    where
      all : (z : ℕ) → 0 < z - 53 → 52 + (z - 53) < z
      all z h = omega arith

-- ---- n / 2 ^ 2149, in smallest values, is n / 2 ^ 1075
scaled : (n : ℕ) → n * 2 ^ 1074 * 2 ^ 1075 ≡ n * 2 ^ 2149
scaled n = mul_assoc n (2 ^ 1074) (2 ^ 1075) ∙ ap (λ (x : ℕ). n * x) (sym (pow-add 2 1074 1075))

same_drop : (n : ℕ) → drop 53 (n * 2 ^ 1074) (2 ^ 2149) ≡ drop 53 n (2 ^ 1075)
same_drop n = ap (λ (x : ℕ). size x - 53) (div_same (n * 2 ^ 1074) (2 ^ 2149) n (2 ^ 1075) (pow_pos 2149) (pow_pos 1075) (scaled n))

same_kept : (n : ℕ) → kept 53 (n * 2 ^ 1074) (2 ^ 2149) ≡ kept 53 n (2 ^ 1075)
same_kept n =
    let k = drop 53 n (2 ^ 1075) in
    ap (λ (x : ℕ). closest (n * 2 ^ 1074) (2 ^ 2149 * 2 ^ x)) (same_drop n)
    ∙ closest_same (n * 2 ^ 1074) (2 ^ 2149 * 2 ^ k) n (2 ^ 1075 * 2 ^ k) (mul-pos (pow_pos 2149) (pow_pos k)) (mul-pos (pow_pos 1075) (pow_pos k))
    (sym (mul_assoc (n * 2 ^ 1074) (2 ^ 1075) (2 ^ k)) ∙ ap (λ (x : ℕ). x * 2 ^ k) (scaled n) ∙ mul_assoc n (2 ^ 2149) (2 ^ k))

-- ---- a value's pattern by its whole number of smallest values
of_value : (v : Float) (s : Bool) (a : ℕ) → HasValue v s a (2 ^ 1074) → to_bits binary64 v ≡ cond s (2 ^ 63) 0 + bits_of a
unfolding to_bits
of_value nan s a h = absurd h
of_value (inf t) s a h = absurd h
of_value (fin t m e) s a h =
    let n : m * up e * 2 ^ 1074 / down e ≡ a = ap (λ (x : ℕ). x / down e) h.1 ∙ mul-div_cancel a (down_pos e) in
    ap (λ (x : ℕ). cond t (2 ^ 63) 0 + (size x - 53) * 2 ^ 52 + x / 2 ^ (size x - 53)) n
    ∙ ap (λ (b : Bool). cond b (2 ^ 63) 0 + (size a - 53) * 2 ^ 52 + a / 2 ^ (size a - 53)) h.0
    ∙ group (cond s (2 ^ 63) 0) ((size a - 53) * 2 ^ 52) (a / 2 ^ (size a - 53))
  where
    group : (x y z : ℕ) → x + y + z ≡ x + (y + z)
    group x y z = omega arith

-- a long number of 94 limbs drops few enough digits
pub few_dropped : (n : ℕ) → n < 2 ^ 3008 → drop 53 n (2 ^ 1075) ≤ 1880
few_dropped n h = count (size n) (size (n / 2 ^ 1075)) (size_shift n 1075) (size-le n 3008 h)
  where
    count : (z y : ℕ) → y ≡ z - 1075 → z ≤ 3008 → y - 53 ≤ 1880
    count z y e h = omega arith

pub dropped_is : (n : ℕ) → drop 53 n (2 ^ 1075) ≡ size n - 1128
dropped_is n = count (size n) (size (n / 2 ^ 1075)) (size_shift n 1075)
  where
    count : (z y : ℕ) → y ≡ z - 1075 → y - 53 ≡ z - 1128
    count z y e = omega arith

module _ (n : ℕ) (h : n < 2 ^ 3008) where
  finite : grid binary64 n (2 ^ 2149) < overflow binary64
  finite =
      let k = drop 53 (n * 2 ^ 1074) (2 ^ 2149) in
      let K : k ≤ 1880 = le_trans (le_of_eq (same_drop n)) (few_dropped n h) in
      lt_of_le_of_lt (mul-le-mul_right (2 ^ k) (kept_most (n * 2 ^ 1074) (2 ^ 2149)))
      (lt_of_le_of_lt (le_of_eq (sym (pow-add 2 53 k))) (pow-lt (within k K)))
    where
      within : (k : ℕ) → k ≤ 1880 → 53 + k < 2098
      within k h = omega arith

  pub round_pattern : (s : Bool) → to_bits binary64 (round binary64 s n (2 ^ 2149)) ≡ cond s (2 ^ 63) 0 + rounded_pattern n
  round_pattern s =
      let k = drop 53 (n * 2 ^ 1074) (2 ^ 2149) in
      let q = kept 53 (n * 2 ^ 1074) (2 ^ 2149) in
      of_value (round binary64 s n (2 ^ 2149)) s (q * 2 ^ k) (round_has binary64 s n (2 ^ 2149) finite)
      ∙ ap (λ (x : ℕ). cond s (2 ^ 63) 0 + x) (bits_are q k (kept_most (n * 2 ^ 1074) (2 ^ 2149)) (kept_least (n * 2 ^ 1074) (2 ^ 2149)))
      ∙ ap (λ (x : ℕ). cond s (2 ^ 63) 0 + (x * 2 ^ 52 + q)) (same_drop n)
      ∙ ap (λ (x : ℕ). cond s (2 ^ 63) 0 + (drop 53 n (2 ^ 1075) * 2 ^ 52 + x)) (same_kept n)

  -- the value of the pattern with its sign
  pub pattern_rounds : (s : Bool) (b : ℕ) → b ≡ cond s (2 ^ 63) 0 + rounded_pattern n → of_bits binary64 b ≡ round binary64 s n (2 ^ 2149)
  pattern_rounds s b e =
      ap (of_bits binary64) (e ∙ sym (round_pattern s)) ∙ of_bits-to_bits binary64 (round binary64 s n (2 ^ 2149)) (round-fits binary64 s n (2 ^ 2149))

pub pattern_small : (n : ℕ) → n < 2 ^ 3008 → rounded_pattern n < 0x7FF0_0000_0000_0000
pattern_small n h = count (drop 53 n (2 ^ 1075)) (kept 53 n (2 ^ 1075)) (few_dropped n h) (kept_most n (2 ^ 1075))
  where
    count : (k q : ℕ) → k ≤ 1880 → q ≤ 2 ^ 53 → k * 2 ^ 52 + q < 0x7FF0_0000_0000_0000
    count k q a b = omega arith

-- such a pattern is no NaN's, with either sign
pub no_nan : (b p : ℕ) → b % 2 ^ 63 ≡ p → p < 0x7FF0_0000_0000_0000 → T (not (nan_bits binary64 b))
no_nan b p e h = subst (λ (t : Bool). T (not t)) (sym (nan_bits_above binary64 b)) (le→nltb 0x7FF0_0000_0000_0000 (b % 2 ^ 63) (omega arith))

-- ---- the steps put together: k bits are dropped, and of the others with the half bit `whole` is left
pub room_for : (n k : ℕ) → k ≡ size n - 1128 → n < 2 ^ (54 + (1074 + k))
room_for n k e = lt_of_lt_of_le (size-lt n) (pow_mono (count (size n) k e))
  where
    count : (z k : ℕ) → k ≡ z - 1128 → z ≤ 54 + (1074 + k)
    count z k e = omega arith

pub few : (n k : ℕ) → k ≡ size n - 1128 → n < 2 ^ 3008 → k ≤ 1880
few n k e h = le_trans (le_of_eq (e ∙ sym (dropped_is n))) (few_dropped n h)

pub pattern_is : (n k whole r : ℕ) (exact : Bool) → k ≡ size n - 1128 → LeadingBits n (1074 + k) whole exact → r ≡ halved_of whole exact → k * 2 ^ 52 + r ≡ rounded_pattern n
pattern_is n k whole r exact e b h =
    let d : k ≡ drop 53 n (2 ^ 1075) = e ∙ sym (dropped_is n) in
    let u : 2 ^ 1075 * 2 ^ k ≡ 2 ^ (1074 + k + 1) = sym (pow-add 2 1075 k) ∙ ap (λ (x : ℕ). 2 ^ x) (one_more k) in
    let q : r ≡ closest n (2 ^ 1075 * 2 ^ k) = h ∙ ap (λ (w : ℕ). halved_of w exact) b.bits ∙ sym (closest_halved n (1074 + k) exact b.rest) ∙ ap (λ (x : ℕ). closest n x) (sym u) in
    ap (λ (x : ℕ). k * 2 ^ 52 + x) q ∙ ap (λ (x : ℕ). x * 2 ^ 52 + closest n (2 ^ 1075 * 2 ^ x)) d
  where
    one_more : (k : ℕ) → 1075 + k ≡ 1074 + k + 1
    one_more k = omega arith
