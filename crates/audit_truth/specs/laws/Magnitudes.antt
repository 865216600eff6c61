-- How large a computed value can be, in units: a difference, a sum, a product; and the magnitude of a value.
use Rattle.std.specs.Prelude.{◌≡◌, refl, Bool, true, false, cond, ℕ, zero, suc, ◌+◌, ◌*◌, ◌^◌, ◌≤◌, T, Float}
use Rattle.std.proofs.Common.{sym, le_trans, le_of_eq, mul-le-mul_right, arith}
use Rattle.std.specs.Float.{nan, inf, fin, binary64}
use Rattle.std.specs.Float.Ieee.{fits}
use Rattle.std.specs.Float.Ieee.Scale.{finite}
use Rattle.base.specs.common.Binary64.{◌⊞◌}
use Rattle.root.specs.Root.{units, magnitude}
use Rattle.ring_area.specs.Area.{below}
use Rattle.auditing.specs.total.Total.{apart}
use Rattle.audit_truth.specs.Exact.{plus_units, minus_units}
use Rattle.audit_truth.specs.laws.Operations.{Rounded, RoundedProduct, add_rounded}

-- ---- one of the two parts is nothing
pub parts_apart : (z : Float) → apart (plus_units z) (minus_units z) ≡ units z
parts_apart z = go (below z) (units z)
  where
    go : (t : Bool) (u : ℕ) → apart (cond t 0 u) (cond t u 0) ≡ u
    go true u = omega arith
    go false u = omega arith

-- ---- a difference or a sum
pub rounded_most : {z : Float} {q n : ℕ} (r : Rounded z q n) → units z ≤ apart q n + r.off
rounded_most {z} {q} {n} r = let m = r.near.most in let l = r.near.least in le_trans (le_of_eq (sym (parts_apart z))) (go (plus_units z) (minus_units z) q n r.off m l)
  where
    go : (a b q n e : ℕ) → a + n ≤ b + q + e → b + q ≤ a + n + e → apart a b ≤ apart q n + e
    go a b q n e m l = omega arith

pub rounded_times : {z : Float} {q n : ℕ} → Rounded z q n → units z * 2 ^ 53 ≤ apart q n * (2 ^ 53 + 1)
rounded_times {z} {q} {n} r = go (units z) (apart q n) r.off (rounded_most r) r.few
  where
    go : (u a e : ℕ) → u ≤ a + e → e * 2 ^ 53 ≤ a → u * 2 ^ 53 ≤ a * (2 ^ 53 + 1)
    go u a e h k = omega arith

pub sum_times : (x y : Float) → T (fits binary64 x) → T (fits binary64 y) → T (finite x) → T (finite y) → T (finite (x ⊞ y))
    → units (x ⊞ y) * 2 ^ 53 ≤ (units x + units y) * (2 ^ 53 + 1)
sum_times x y F G p q r =
    le_trans (rounded_times (add_rounded x y F G p q r))
    (mul-le-mul_right (2 ^ 53 + 1) (go (plus_units x) (minus_units x) (plus_units y) (minus_units y) (units x) (units y) (parts_apart x) (parts_apart y)))
  where
    go : (a b c d u w : ℕ) → apart a b ≡ u → apart c d ≡ w → apart (a + c) (b + d) ≤ u + w
    go a b c d u w h k = omega arith

-- ---- a product
pub product_times : {z x y : Float} → RoundedProduct z x y → units z * 2 ^ 1074 * 2 ^ 54 ≤ units x * units y * (2 ^ 54 + 2) + 2 ^ 53 * 2 ^ 1074
product_times {z} {x} {y} r =
    go (below z) (below x) (below y) (units z) (units x) (units y) (2 ^ 1074) r.off (2 ^ 53 * 2 ^ 1074) r.near.most r.near.least r.few
  where
    last : (z p e f : ℕ) → z ≤ p + e → e * 2 ^ 54 ≤ 2 * p + f → z * 2 ^ 54 ≤ p * (2 ^ 54 + 2) + f
    last z p e f h k = omega arith

    go : (k s t : Bool) (z u w i e f : ℕ) → cond k 0 z * i + (cond s 0 u * cond t w 0 + cond s u 0 * cond t 0 w) ≤ cond k z 0 * i + (cond s 0 u * cond t 0 w + cond s u 0 * cond t w 0) + e
        → cond k z 0 * i + (cond s 0 u * cond t 0 w + cond s u 0 * cond t w 0) ≤ cond k 0 z * i + (cond s 0 u * cond t w 0 + cond s u 0 * cond t 0 w) + e
        → e * 2 ^ 54 ≤ 2 * (u * w) + f → z * i * 2 ^ 54 ≤ u * w * (2 ^ 54 + 2) + f
    go k s t z u w i e f m l h = last (z * i) (u * w) e f (one k s t z u w i e m l) h
      where
        one : (k s t : Bool) (z u w i e : ℕ) → cond k 0 z * i + (cond s 0 u * cond t w 0 + cond s u 0 * cond t 0 w) ≤ cond k z 0 * i + (cond s 0 u * cond t 0 w + cond s u 0 * cond t w 0) + e
            → cond k z 0 * i + (cond s 0 u * cond t 0 w + cond s u 0 * cond t w 0) ≤ cond k 0 z * i + (cond s 0 u * cond t w 0 + cond s u 0 * cond t 0 w) + e → z * i ≤ u * w + e
        one true true true z u w i e m l = omega arith
        one true true false z u w i e m l = omega arith
        one true false true z u w i e m l = omega arith
        one true false false z u w i e m l = omega arith
        one false true true z u w i e m l = omega arith
        one false true false z u w i e m l = omega arith
        one false false true z u w i e m l = omega arith
        one false false false z u w i e m l = omega arith

-- ---- magnitudes
pub magnitude_units : (z : Float) → units (magnitude z) ≡ units z
magnitude_units nan = refl
magnitude_units (inf s) = refl
magnitude_units (fin s m e) = refl

pub magnitude_fits : (z : Float) → T (fits binary64 z) → T (fits binary64 (magnitude z))
unfolding fits
magnitude_fits nan f = f
magnitude_fits (inf s) f = f
magnitude_fits (fin s zero e) f = f
magnitude_fits (fin s (suc m) e) f = f
