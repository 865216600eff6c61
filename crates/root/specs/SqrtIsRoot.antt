-- Theorem: the root that computes is the root of the definition (`sqrt_root`), and there is no other (`root_is_sqrt`); the same on bit patterns.
use Rattle.std.specs.Prelude.{◌≡◌, refl, true, false, ℕ, zero, suc, ◌+◌, ◌-◌, ◌*◌, ◌/◌, ◌^◌, ◌≤◌, ◌<◌, T, Float}
use Rattle.std.proofs.Common.{sym, ap, ◌∙◌, subst, mul_assoc, mul-le-mul_right, le_of_eq, lt_of_lt_of_le, lt_of_le_of_lt, zero-lt-suc, mul-lt-mul_of_pos_right, le-add_left, lit<, pow-add, pow_pos}
use Rattle.std.proofs.Math.Pow.{pow-lt}
use Rattle.std.specs.Int.Count.{count_trailing_zeros}
use Rattle.std.specs.Float.{nan, inf, fin, binary64}
use Rattle.std.specs.Float.Ieee.{odd, size, span, climb, fits, is_nan, of_bits, of_fields, to_bits}
use Rattle.std.specs.Float.Ieee.Fits.{odd-fits, nan-fits}
use Rattle.std.specs.Float.Ieee.Bits.{of_bits-fits, of_bits-to_bits, to_bits-lt, nan_bits_is}
use Rattle.root.specs.whole_root.Near.{sq}
use Rattle.root.specs.Root.{units, NearestRoot, Root, RootBits, quiet}
use Rattle.root.specs.Sqrt.{whole_root, nearest_root, root_of_units, sqrt_of}
use Rattle.root.specs.laws.Units.{odd_units, odd_plus, held_units, nearest_of_lem}
use Rattle.root.specs.laws.WholeRoots.{Quartered, near, digits, scaled}
use Rattle.root.specs.Unique.{one_root, one_pattern}

-- ---- the root

root_of_scaled : (x : Float) (n h : ℕ) → n ≡ units x * 2 ^ 1074 → Quartered n (n / sq (2 ^ h)) h → NearestRoot x (odd 54 false (nearest_root (n / sq (2 ^ h))) h 1074)
root_of_scaled x n h e s =
    let v = n / sq (2 ^ h) in
    let q = nearest_root v in
    let some : 0 < v = lt_of_lt_of_le (pow_pos 104) s.low in
    let d : q ≤ 2 ^ 53 = digits v some s.high in
    nearest_of_lem x (odd 54 false q h 1074) v q h
    (odd-fits binary64 54 false q h (lt_of_le_of_lt d (pow-lt {i = 53} {j = 54} (lit< tt))) d
    (lt_of_le_of_lt (mul-le-mul_right (2 ^ h) d) (lt_of_le_of_lt (le_of_eq (sym (pow-add 2 53 h))) (pow-lt s.room))))
    (odd_plus 54 q h 1074)
    (odd_units 54 false q h)
    (sym e ∙ s.value)
    (near v some s.high)
    s.low

pub sqrt_root : (x : Float) → T (fits binary64 x) → Root x (sqrt_of x)
unfolding sqrt_of root_of_units
sqrt_root nan f = refl
sqrt_root (inf true) f = refl
sqrt_root (inf false) f = refl
sqrt_root (fin s zero e) f = refl
sqrt_root (fin true (suc m) e) f = refl
sqrt_root (fin false (suc m) e) f =
    let w = held_units false m e f in
    let u = units (fin false (suc m) e) in
    let n = u * 2 ^ 1074 in
    root_of_scaled (fin false (suc m) e) n ((size n - 105) / 2) refl
    (scaled (suc m) (w.zeros + 1074) n
    (ap (λ (a : ℕ). a * 2 ^ 1074) w.value ∙ mul_assoc (suc m) (2 ^ w.zeros) (2 ^ 1074) ∙ ap (λ (a : ℕ). suc m * a) (sym (pow-add 2 w.zeros 1074)))
    (zero-lt-suc m) w.digits (le-add_left 1074 w.zeros) (mul-lt-mul_of_pos_right w.bound (pow_pos 1074)))

pub sqrt_fits : (x : Float) → T (fits binary64 x) → T (fits binary64 (sqrt_of x))
sqrt_fits x f = held x (sqrt_of x) f (sqrt_root x f)
  where
    held : (x r : Float) → T (fits binary64 x) → Root x r → T (fits binary64 r)
    held nan r f h = subst (λ (v : Float). T (fits binary64 v)) (sym h) (nan-fits binary64)
    held (inf true) r f h = subst (λ (v : Float). T (fits binary64 v)) (sym h) (nan-fits binary64)
    held (inf false) r f h = subst (λ (v : Float). T (fits binary64 v)) (sym h) f
    held (fin s zero e) r f h = subst (λ (v : Float). T (fits binary64 v)) (sym h) f
    held (fin true (suc m) e) r f h = subst (λ (v : Float). T (fits binary64 v)) (sym h) (nan-fits binary64)
    held (fin false (suc m) e) r f h = h.held

-- there is no other
pub root_is_sqrt : (x r : Float) → T (fits binary64 x) → Root x r → r ≡ sqrt_of x
root_is_sqrt x r f h = one_root x r (sqrt_of x) h (sqrt_root x f)

-- ---- the root on bit patterns

abbrev pub sqrt_bits : ℕ → ℕ
sqrt_bits b = to_bits binary64 (sqrt_of (of_bits binary64 b))

quiet_of : (v : Float) → T (is_nan v) → to_bits binary64 v ≡ quiet
unfolding is_nan to_bits
quiet_of nan t = refl
quiet_of (inf s) t = absurd t
quiet_of (fin s m e) t = absurd t

pub sqrt_bits_lem : (b : ℕ) → RootBits b (sqrt_bits b)
sqrt_bits_lem b =
    let x = of_bits binary64 b in
    let f : T (fits binary64 x) = of_bits-fits binary64 b in
    let e : of_bits binary64 (sqrt_bits b) ≡ sqrt_of x = of_bits-to_bits binary64 (sqrt_of x) (sqrt_fits x f) in
    record {
      value = subst (Root x) (sym e) (sqrt_root x f);
      pattern = λ t. quiet_of (sqrt_of x) (subst T (nan_bits_is binary64 (sqrt_bits b) ∙ ap is_nan e) t);
    }

pub bits_are_sqrt : (b r : ℕ) → r < 2 ^ 64 → RootBits b r → r ≡ sqrt_bits b
bits_are_sqrt b r l h = one_pattern b r (sqrt_bits b) l (to_bits-lt binary64 (sqrt_of (of_bits binary64 b)) (sqrt_fits (of_bits binary64 b) (of_bits-fits binary64 b))) h (sqrt_bits_lem b)

-- ---- the worked example: the root of the least value above 0, 2 ^ -1074, is 2 ^ -537

pub least_root : sqrt_of (of_bits binary64 1) ≡ of_bits binary64 0x1E60_0000_0000_0000
unfolding sqrt_of root_of_units nearest_root whole_root size span climb odd count_trailing_zeros of_bits of_fields
least_root = refl
