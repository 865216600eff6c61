-- What is not below 0 stays so: magnitudes, their sums and products, and the tolerance of the certificate (`far_plus`). And it is never below what adds nothing (`not_above`).
use Rattle.std.specs.Prelude.{◌≡◌, refl, Bool, true, false, cond, ℕ, zero, suc, ◌+◌, ◌-◌, ◌*◌, ◌/◌, ◌%◌, ◌^◌, ◌≤◌, ◌<◌, T, ltb, eqb, leb, Float}
use Rattle.std.proofs.Common.{sym, subst, arith, le-ltb}
use Prim.{tt}
use Rattle.std.proofs.Math.Arith.{lt→nleb}
use Rattle.std.specs.Float.{nan, inf, fin, binary64}
use Rattle.std.specs.Float.Ieee.{up, down, odd, round, fits, lt, add, sum, mul, of_fields, of_bits}
use Rattle.std.specs.Float.Ieee as I
use Rattle.std.specs.Float.Ieee.Bits.{is_false}
use Rattle.std.specs.Float.Ieee.Fits.{round_is}
use Rattle.std.specs.Float.Ieee.Scale.{finite}
use Rattle.base.specs.common.Binary64.{◌⊞◌, ◌⊠◌}
use Rattle.base.specs.common.Pick.{pick}
use Rattle.root.specs.Root.{units, magnitude}
use Rattle.root.specs.laws.UnitBounds.{some_units}
use Rattle.ring_area.specs.lowest.laws.Loops.{no_both}
use Rattle.plane.specs.declared.boxes.BoundingBox.{BoundingBox}
use Rattle.auditing.specs.nearer.Nearer.{tolerance_of}
use Rattle.audit_truth.specs.Exact.{plus_units}
use Rattle.certifying.specs.call.Verdict.{larger_of, reach_of, certify_far}
use Rattle.certifying.specs.windows.Windows.{NotMinus}

odd_plus : (d q k l : ℕ) → NotMinus (odd d false q k l)
unfolding odd
odd_plus d zero k l = refl
odd_plus d (suc q) k l = refl

units_plus : (q k : ℕ) → NotMinus (I.units binary64 false q k)
unfolding I.units
units_plus q k = go (ltb (q * 2 ^ k) (2 ^ 2098))
  where
    go : (t : Bool) → NotMinus (cond t (odd 54 false q k 1074) (inf false))
    go true = odd_plus 54 q k 1074
    go false = refl

round_plus : (a c : ℕ) → NotMinus (round binary64 false a c)
round_plus a c = subst NotMinus (sym (round_is binary64 false a c)) (units_plus _ _)

pub magnitude_plus : (x : Float) → NotMinus (magnitude x)
magnitude_plus nan = tt
magnitude_plus (inf s) = refl
magnitude_plus (fin s m e) = refl

pub add_plus : (x y : Float) → NotMinus x → NotMinus y → NotMinus (x ⊞ y)
unfolding add sum
add_plus nan y p q = tt
add_plus (inf false) nan p q = tt
add_plus (inf false) (inf false) p q = refl
add_plus (inf false) (inf true) p q = tt
add_plus (inf false) (fin t n d) p q = refl
add_plus (inf true) y p q = absurd (no_both p)
add_plus (fin s m e) nan p q = tt
add_plus (fin s m e) (inf t) p q = q
add_plus (fin false m e) (fin false n d) p q = round_plus (m * up e * down d + n * up d * down e) (down e * down d)
add_plus (fin false m e) (fin true n d) p q = absurd (no_both q)
add_plus (fin true m e) (fin t n d) p q = absurd (no_both p)

pub mul_plus : (x y : Float) → NotMinus x → NotMinus y → NotMinus (x ⊠ y)
unfolding mul
mul_plus nan y p q = tt
mul_plus (inf false) nan p q = tt
mul_plus (inf false) (inf false) p q = refl
mul_plus (inf false) (inf true) p q = absurd (no_both q)
mul_plus (inf false) (fin true n d) p q = absurd (no_both q)
mul_plus (inf false) (fin false n d) p q = go (eqb n 0)
  where
    go : (t : Bool) → NotMinus (cond t nan (inf false))
    go true = tt
    go false = refl
mul_plus (inf true) y p q = absurd (no_both p)
mul_plus (fin true m e) y p q = absurd (no_both p)
mul_plus (fin false m e) nan p q = tt
mul_plus (fin false m e) (inf true) p q = absurd (no_both q)
mul_plus (fin false m e) (inf false) p q = go (eqb m 0)
  where
    go : (t : Bool) → NotMinus (cond t nan (inf false))
    go true = tt
    go false = refl
mul_plus (fin false m e) (fin true n d) p q = absurd (no_both q)
mul_plus (fin false m e) (fin false n d) p q = round_plus (m * up e * (n * up d)) (down e * down d)

-- ---- what adds nothing is above nothing
pub not_above : (x y : Float) → NotMinus x → T (fits binary64 y) → T (finite y) → plus_units y ≡ 0 → lt x y ≡ false
unfolding lt
not_above nan y p f t e = refl
not_above (inf true) y p f t e = absurd (no_both p)
not_above (inf false) nan p f t e = refl
not_above (inf false) (inf s) p f t e = absurd t
not_above (inf false) (fin s n d) p f t e = refl
not_above (fin true m k) y p f t e = absurd (no_both p)
not_above (fin false m k) nan p f t e = refl
not_above (fin false m k) (inf s) p f t e = absurd t
not_above (fin false m k) (fin true n d) p f t e = refl
not_above (fin false m k) (fin false zero d) p f t e = le-ltb (m * up k * down d) (0 * up d * down k) (none (up d) (down k) (m * up k * down d))
  where
    none : (a b c : ℕ) → 0 * a * b ≤ c
    none a b c = omega arith
not_above (fin false m k) (fin false (suc n) d) p f t e = absurd (no (units (fin false (suc n) d)) (some_units n d f) e)
  where
    no : (u : ℕ) → 0 < u → u ≡ 0 → ⊥
    no u h e = omega arith

-- ---- the tolerance
larger_plus : (x y : Float) → NotMinus x → NotMinus y → NotMinus (larger_of x y)
unfolding larger_of
larger_plus x y p q = go (lt x y)
  where
    go : (t : Bool) → NotMinus (pick t (λ _. y) (λ _. x))
    go true = q
    go false = p

fields_plus : (x t : ℕ) → NotMinus (of_fields binary64 false x t)
unfolding of_fields
fields_plus zero t = odd_plus 53 t 0 1074
fields_plus (suc x) t = go (eqb (suc x) 2047) (eqb t 0)
  where
    go : (a b : Bool) → NotMinus (cond a (cond b (inf false) nan) (odd 53 false (2 ^ 52 + t) x 1074))
    go true true = refl
    go true false = tt
    go false b = odd_plus 53 (2 ^ 52 + t) x 1074

tolerance_plus : (bits : ℕ) → NotMinus (tolerance_of bits)
unfolding tolerance_of of_bits
tolerance_plus bits =
    let n = (1023 - bits) * 2 ^ 52 in
    subst (λ (s : Bool). NotMinus (of_fields binary64 s (n % 2 ^ 63 / 2 ^ 52) (n % 2 ^ 52))) (sym (is_false (leb (2 ^ 63) n) (lt→nleb (2 ^ 63) n (low bits))))
    (fields_plus (n % 2 ^ 63 / 2 ^ 52) (n % 2 ^ 52))
  where
    low : (b : ℕ) → (1023 - b) * 2 ^ 52 < 2 ^ 63
    low b = omega arith

pub far_plus : (b : BoundingBox) (bits : ℕ) → NotMinus (certify_far b bits)
unfolding certify_far reach_of
far_plus b bits =
    mul_plus _ (tolerance_of bits)
    (larger_plus _ _ (larger_plus _ _ (magnitude_plus b.left) (magnitude_plus b.top)) (larger_plus _ _ (magnitude_plus b.right) (magnitude_plus b.bottom)))
    (tolerance_plus bits)
