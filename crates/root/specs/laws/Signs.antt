-- The sign of a pattern and of a value, and the constants of the code.
use Rattle.std.specs.Prelude.{◌≡◌, refl, Bool, true, false, not, cond, ℕ, zero, suc, ◌+◌, ◌/◌, ◌%◌, ◌^◌, ◌≤◌, ◌<◌, T, leb, eqb, pos, Float}
use Rattle.std.proofs.Common.{sym, ap, ◌∙◌, subst, arith, lt→ltb, le→leb}
use Rattle.std.specs.Int.Count.{count_trailing_zeros}
use Rattle.std.proofs.Math.Arith.{lt→nleb}
use Rattle.std.specs.Float.{nan, inf, fin, binary64}
use Rattle.std.specs.Float.Ieee.{odd, is_nan, of_fields, of_bits, to_bits, span, climb, size, div, neg}
use Rattle.std.specs.Float.Ieee.Bits.{is_true, is_false, nan_bits_is, nan_bits_above}
use Rattle.base.specs.common.Binary64 as B
use Rattle.root.specs.Root.{magnitude, signum, quiet}
use Rattle.root.specs.laws.Patterns.{of_bits_is, same, is_nan_lem}

-- ---- a pattern's sign

abbrev one : Bool → Float
one s = fin s 1 (pos 0)

odd_magnitude : (d : ℕ) (s : Bool) (q k l : ℕ) → magnitude (odd d s q k l) ≡ odd d false q k l
unfolding odd
odd_magnitude d s zero k l = refl
odd_magnitude d s (suc q) k l = refl

odd_signum : (d : ℕ) (s : Bool) (q k l : ℕ) → signum (odd d s q k l) ≡ one s
unfolding odd
odd_signum d s zero k l = refl
odd_signum d s (suc q) k l = refl

fields_magnitude : (s : Bool) (x t : ℕ) → magnitude (of_fields binary64 s x t) ≡ of_fields binary64 false x t
unfolding of_fields
fields_magnitude s zero t = odd_magnitude 53 s t 0 1074
fields_magnitude s (suc x) t = go (eqb (suc x) 2047) (eqb t 0)
  where
    go : (a b : Bool) → magnitude (cond a (cond b (inf s) nan) (odd 53 s (2 ^ 52 + t) x 1074)) ≡ cond a (cond b (inf false) nan) (odd 53 false (2 ^ 52 + t) x 1074)
    go true true = refl
    go true false = refl
    go false b = odd_magnitude 53 s (2 ^ 52 + t) x 1074

fields_signum : (s : Bool) (x t : ℕ) → T (not (is_nan (of_fields binary64 s x t))) → signum (of_fields binary64 s x t) ≡ one s
unfolding of_fields is_nan
fields_signum s zero t h = odd_signum 53 s t 0 1074
fields_signum s (suc x) t h = go (eqb (suc x) 2047) (eqb t 0) h
  where
    go : (a b : Bool) → T (not (is_nan (cond a (cond b (inf s) nan) (odd 53 s (2 ^ 52 + t) x 1074)))) → signum (cond a (cond b (inf s) nan) (odd 53 s (2 ^ 52 + t) x 1074)) ≡ one s
    go true true h = refl
    go true false h = absurd h
    go false b h = odd_signum 53 s (2 ^ 52 + t) x 1074

pub magnitude_is : (n : ℕ) → magnitude (of_bits binary64 n) ≡ of_bits binary64 (n % 2 ^ 63)
magnitude_is n =
    let m = n % 2 ^ 63 in
    let g : m < 2 ^ 63 = omega arith in
    let x : m / 2 ^ 52 ≡ m % 2 ^ 63 / 2 ^ 52 = omega arith in
    let t : n % 2 ^ 52 ≡ m % 2 ^ 52 = omega arith in
    ap magnitude (of_bits_is n)
    ∙ fields_magnitude (leb (2 ^ 63) n) (m / 2 ^ 52) (n % 2 ^ 52)
    ∙ same (sym (is_false (leb (2 ^ 63) m) (lt→nleb (2 ^ 63) m g))) x t
    ∙ sym (of_bits_is m)

signum_is : (n : ℕ) (s : Bool) → leb (2 ^ 63) n ≡ s → T (not (is_nan (of_bits binary64 n))) → signum (of_bits binary64 n) ≡ one s
signum_is n s e h =
    let is : of_bits binary64 n ≡ of_fields binary64 s (n % 2 ^ 63 / 2 ^ 52) (n % 2 ^ 52) = of_bits_is n ∙ same e refl refl in
    ap signum is ∙ fields_signum s (n % 2 ^ 63 / 2 ^ 52) (n % 2 ^ 52) (subst (λ (v : Float). T (not (is_nan v))) is h)

module _ (n : ℕ) (h : T (not (is_nan (of_bits binary64 n)))) where
  pub signum_plus : n < 2 ^ 63 → signum (of_bits binary64 n) ≡ one false
  signum_plus l = signum_is n false (is_false (leb (2 ^ 63) n) (lt→nleb (2 ^ 63) n l)) h

  pub signum_minus : 2 ^ 63 ≤ n → signum (of_bits binary64 n) ≡ one true
  signum_minus l = signum_is n true (is_true (leb (2 ^ 63) n) (le→leb (2 ^ 63) n l)) h

pub above_nan : (n : ℕ) → 0x7FF0_0000_0000_0000 < n % 2 ^ 63 → of_bits binary64 n ≡ nan
above_nan n l = is_nan_lem (of_bits binary64 n) (subst T (sym (nan_bits_above binary64 n) ∙ nan_bits_is binary64 n) (lt→ltb 0x7FF0_0000_0000_0000 (n % 2 ^ 63) l))

pub up_to_no_nan : (n : ℕ) → n % 2 ^ 63 ≤ 0x7FF0_0000_0000_0000 → T (not (is_nan (of_bits binary64 n)))
up_to_no_nan n l = subst (λ (b : Bool). T (not b)) (sym (nan_bits_above binary64 n) ∙ nan_bits_is binary64 n) (lt→nleb (suc 0x7FF0_0000_0000_0000) (n % 2 ^ 63) (low (n % 2 ^ 63) l))
  where
    low : (r : ℕ) → r ≤ 0x7FF0_0000_0000_0000 → r < suc 0x7FF0_0000_0000_0000
    low r l = omega arith

pub bits_nan : to_bits binary64 nan ≡ quiet
unfolding to_bits
bits_nan = refl

pub bits_one : to_bits binary64 (one false) ≡ 0x3FF0_0000_0000_0000
unfolding to_bits size span climb
bits_one = refl

pub bits_minus_one : to_bits binary64 (one true) ≡ 0xBFF0_0000_0000_0000
unfolding to_bits size span climb
bits_minus_one = refl

-- ---- the constants of the code

pub no_quotient : div binary64 B.zero B.zero ≡ nan
unfolding div of_bits of_fields odd
no_quotient = refl

pub one_is : of_bits binary64 0x3FF0_0000_0000_0000 ≡ one false
unfolding of_bits of_fields odd count_trailing_zeros
one_is = refl

pub minus_one_is : neg (of_bits binary64 0x3FF0_0000_0000_0000) ≡ one true
unfolding neg of_bits of_fields odd count_trailing_zeros
minus_one_is = refl
