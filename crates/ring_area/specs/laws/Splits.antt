-- A pattern's significand and exponent, its sign, and the pattern of a value within 2 ^ 400.
use Rattle.std.specs.Prelude.{◌≡◌, refl, Bool, true, false, cond, ℕ, zero, suc, ◌+◌, ◌-◌, ◌*◌, ◌/◌, ◌%◌, ◌^◌, ◌≤◌, ◌<◌, leb, eqb, Float}
use Rattle.std.proofs.Common.{sym, ap, ◌∙◌, le_trans, le_of_eq, lt_of_le_of_lt, arith, eqb→eq, lit≤}
use Rattle.std.proofs.Math.Dec.{not_T}
use Rattle.std.specs.Float.{nan, inf, fin, binary64}
use Rattle.std.specs.Float.Ieee.{up, down, size, odd, of_fields, to_bits}
use Rattle.std.specs.Float.Ieee.Bits.{cond_no}
use Rattle.std.specs.Float.Ieee.Digits.{size-le}
use Rattle.std.specs.Float.Ieee.Fits.{kept-lt}
use Rattle.std.proofs.Math.Pow.{pow-lt}
use Rattle.root.specs.Bounded.{Bounded}
use Rattle.root.specs.Root.{units}
use Rattle.root.specs.laws.Patterns.{of_bits_is}
use Rattle.root.specs.laws.Units.{odd_units}
use Rattle.ring_area.specs.Area.{below}
use Rattle.ring_area.specs.laws.Bounds.{units_within}
use Rattle.ring_area.specs.Steps.{LowPattern, SplitOf}

-- ---- the fields of a pattern
fields : (s : Bool) (x t : ℕ) → suc x ≤ 1423 → of_fields binary64 s (suc x) t ≡ odd 53 s (2 ^ 52 + t) x 1074
unfolding of_fields
fields s x t h =
    cond_no (eqb (suc x) 2047) (cond (eqb t 0) (inf s) nan) (odd 53 s (2 ^ 52 + t) x 1074)
    (not_T (eqb (suc x) 2047) (λ z. no x h (eqb→eq (suc x) 2047 z)))
  where
    no : (x : ℕ) → suc x ≤ 1423 → suc x ≡ 2047 → ⊥
    no x h z = omega arith

subnormal : (s : Bool) (t : ℕ) → of_fields binary64 s 0 t ≡ odd 53 s t 0 1074
unfolding of_fields
subnormal s t = refl

module _ (b : ℕ) where
  pub split_low : b % 2 ^ 63 / 2 ^ 52 ≡ 0 → SplitOf b (b % 2 ^ 52) 0
  split_low e = record {
    value =
        ap units
        (of_bits_is b
        ∙ ap (λ (x : ℕ). of_fields binary64 (leb (2 ^ 63) b) x (b % 2 ^ 52)) e
        ∙ subnormal (leb (2 ^ 63) b) (b % 2 ^ 52))
        ∙ odd_units 53 (leb (2 ^ 63) b) (b % 2 ^ 52) 0;
    place = omega arith;
    most = omega arith;
  }

  pub split_high : LowPattern b → (b % 2 ^ 63 / 2 ^ 52 ≡ 0 → ⊥) → SplitOf b (2 ^ 52 + b % 2 ^ 52) (b % 2 ^ 63 / 2 ^ 52 - 1)
  split_high l n = go (b % 2 ^ 63 / 2 ^ 52) refl
    where
      go : (x : ℕ) → b % 2 ^ 63 / 2 ^ 52 ≡ x → SplitOf b (2 ^ 52 + b % 2 ^ 52) (x - 1)
      go zero e = absurd (n e)
      go (suc x) e =
          let h : suc x ≤ 1423 = le_trans (le_of_eq (sym e)) l.exponent in
          let p : suc x - 1 ≡ x = omega arith in
          record {
            value =
                ap units
                (of_bits_is b
                ∙ ap (λ (y : ℕ). of_fields binary64 (leb (2 ^ 63) b) y (b % 2 ^ 52)) e
                ∙ fields (leb (2 ^ 63) b) x (b % 2 ^ 52) h)
                ∙ odd_units 53 (leb (2 ^ 63) b) (2 ^ 52 + b % 2 ^ 52) x
                ∙ ap (λ (y : ℕ). (2 ^ 52 + b % 2 ^ 52) * 2 ^ y) (sym p);
            place = ap (λ (y : ℕ). y - 1) (sym e);
            most = omega arith;
          }

-- ---- the pattern of a value
pub record PatternParts (x : Float) (b : ℕ) : Type 0 where
  pub low : LowPattern b
  pub sign : b / 2 ^ 63 ≡ cond (below x) 1 0

pub pattern_low : (x : Float) → Bounded 400 x → PatternParts x (to_bits binary64 x)
unfolding to_bits
pattern_low nan h = absurd h
pattern_low (inf s) h = absurd h
pattern_low (fin s m e) h =
    let n = m * up e * 2 ^ 1074 / down e in
    let z : size n ≤ 1475 = size-le n 1475 (lt_of_le_of_lt (units_within (fin s m e) h) (pow-lt {i = 1474} {j = 1475} (lit≤ tt))) in
    let k : n / 2 ^ (size n - 53) < 2 ^ 53 = kept-lt 53 n in
    go s (size n) (n / 2 ^ (size n - 53)) z k
  where
    go : (s : Bool) (z q : ℕ) → z ≤ 1475 → q < 2 ^ 53 → PatternParts (fin s m e) (cond s (2 ^ 63) 0 + (z - 53) * 2 ^ 52 + q)
    go true z q a b = record { low = record { exponent = omega arith }; sign = omega arith }
    go false z q a b = record { low = record { exponent = omega arith }; sign = omega arith }
