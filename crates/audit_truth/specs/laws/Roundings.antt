-- One rounding in units: a whole number of them is off by at most one part in 2 ^ 53 (`round_whole`), what is no whole number by that or by half a unit (`round_product`).
use Rattle.std.specs.Prelude.{◌≡◌, Bool, ◌⊎◌, ℕ, zero, suc, ◌+◌, ◌*◌, ◌/◌, ◌^◌, ◌≤◌, ◌<◌, T, ℤ, Float}
use Rattle.std.proofs.Common.{sym, ap, ◌∙◌, subst, inl, inr, ⊎_elim, mul-div_cancel, mul-le-mul_right, le_of_mul-le-mul_right, zero-mul, pos_of_ne-zero, arith, lit<}
use Prim.{tt}
use Rattle.std.specs.Float.{nan, inf, fin, binary64}
use Rattle.std.specs.Float.Ieee.{up, down, fits, round}
use Rattle.std.specs.Float.Ieee.Exact.{HasValue}
use Rattle.std.specs.Float.Ieee.Fits.{down_pos}
use Rattle.std.specs.Float.Ieee.Order.{drop, kept}
use Rattle.std.specs.Float.Ieee.Scale.{grid, finite}
use Rattle.base.specs.common.laws.Decide.{eq_or_ne}
use Rattle.root.specs.Root.{units}
use Rattle.root.specs.laws.Rounding.{round_has, round_within}
use Rattle.root.specs.laws.Units.{held_units, zero_units}
use Rattle.ring_area.specs.half.Half.{WithinHalf, kept_within, dropped}
use Rattle.ring_area.specs.Area.{below}
use Rattle.audit_truth.specs.laws.Close.{Close}

-- ---- a value by its sign and its units
value_is : (z : Float) (s : Bool) (g : ℕ) → HasValue z s g (2 ^ 1074) → (below z ≡ s) × (units z ≡ g)
value_is nan s g v = absurd v
value_is (inf t) s g v = absurd v
value_is (fin t m e) s g v = (v.0, ap (λ (x : ℕ). x / down e) v.1 ∙ mul-div_cancel g (down_pos e))

-- what binary64 holds is a whole number of units
pub units_exact : (s : Bool) (m : ℕ) (e : ℤ) → T (fits binary64 (fin s m e)) → m * up e * 2 ^ 1074 ≡ units (fin s m e) * down e
units_exact s zero e f =
    ap (λ (x : ℕ). x * 2 ^ 1074) (zero-mul (up e)) ∙ zero-mul (2 ^ 1074) ∙ sym (ap (λ (x : ℕ). x * down e) (zero_units s e) ∙ zero-mul (down e))
units_exact s (suc m) e f = sym (held_units s m e f).exact

-- ---- n / c with 53 digits kept: within half a unit, or within one part in 2 ^ 53
none_dropped : (k n c : ℕ) → WithinHalf k n (c * 1) → Close (k * 1 * c * 2) (n * 2) c
none_dropped k n c h = let m = h.most in let l = h.least in record { most = omega arith; least = omega arith }

some_dropped : (k w n c : ℕ) → WithinHalf k n (c * w) → 2 ^ 52 * (c * w) ≤ n → Close (k * w * c * 2 ^ 53) (n * 2 ^ 53) n
some_dropped k w n c h d = let m = h.most in let l = h.least in record { most = omega arith; least = omega arith }

abbrev Near : ℕ → ℕ → ℕ → Type 0
Near g n c = Close (g * c * 2) (n * 2) c ⊎ Close (g * c * 2 ^ 53) (n * 2 ^ 53) n

near : (n c : ℕ) → 0 < c → Near (kept 53 n c * 2 ^ drop 53 n c) n c
near n c C = go (kept 53 n c) (drop 53 n c) (kept_within 53 n c C) (λ D. dropped 53 n c C (lit< tt) D)
  where
    go : (k j : ℕ) → WithinHalf k n (c * 2 ^ j) → (0 < j → 2 ^ 52 * (c * 2 ^ j) ≤ n) → Near (k * 2 ^ j) n c
    go k j h d =
        ⊎_elim
        (λ z. inl (subst (λ (i : ℕ). Close (k * 2 ^ i * c * 2) (n * 2) c) (sym z) (none_dropped k n c (subst (λ (i : ℕ). WithinHalf k n (c * 2 ^ i)) z h))))
        (λ z. inr (some_dropped k (2 ^ j) n c h (d (pos_of_ne-zero z)))) (eq_or_ne j 0)

-- ---- n / c is w, and w over u
whole_of : (g n c w : ℕ) → 0 < c → n ≡ w * c → Near g n c → Close (g * 2 ^ 53) (w * 2 ^ 53) w
whole_of g n c w C e = ⊎_elim half part
  where
    half : Close (g * c * 2) (n * 2) c → Close (g * 2 ^ 53) (w * 2 ^ 53) w
    half h =
        let m = h.most in
        let l = h.least in
        let a : g * 2 ≤ w * 2 + 1 = le_of_mul-le-mul_right {k = c} (omega arith) C in
        let b : w * 2 ≤ g * 2 + 1 = le_of_mul-le-mul_right {k = c} (omega arith) C in
        record { most = omega arith; least = omega arith }

    part : Close (g * c * 2 ^ 53) (n * 2 ^ 53) n → Close (g * 2 ^ 53) (w * 2 ^ 53) w
    part h =
        let m = h.most in
        let l = h.least in
        record { most = le_of_mul-le-mul_right {k = c} (omega arith) C; least = le_of_mul-le-mul_right {k = c} (omega arith) C }

product_of : (g n c w u : ℕ) → 0 < c → n * u ≡ w * c → Near g n c → Close (g * u * 2 ^ 54) (w * 2 ^ 54) (2 * w + 2 ^ 53 * u)
product_of g n c w u C e = ⊎_elim half part
  where
    half : Close (g * c * 2) (n * 2) c → Close (g * u * 2 ^ 54) (w * 2 ^ 54) (2 * w + 2 ^ 53 * u)
    half h =
        let m : g * c * 2 * u ≤ (n * 2 + c) * u = mul-le-mul_right u h.most in
        let l : n * 2 * u ≤ (g * c * 2 + c) * u = mul-le-mul_right u h.least in
        let a : g * u * 2 ≤ w * 2 + u = le_of_mul-le-mul_right {k = c} (omega arith) C in
        let b : w * 2 ≤ g * u * 2 + u = le_of_mul-le-mul_right {k = c} (omega arith) C in
        record { most = omega arith; least = omega arith }

    part : Close (g * c * 2 ^ 53) (n * 2 ^ 53) n → Close (g * u * 2 ^ 54) (w * 2 ^ 54) (2 * w + 2 ^ 53 * u)
    part h =
        let m : g * c * 2 ^ 53 * u ≤ (n * 2 ^ 53 + n) * u = mul-le-mul_right u h.most in
        let l : n * 2 ^ 53 * u ≤ (g * c * 2 ^ 53 + n) * u = mul-le-mul_right u h.least in
        let a : g * u * 2 ^ 53 ≤ w * 2 ^ 53 + w = le_of_mul-le-mul_right {k = c} (omega arith) C in
        let b : w * 2 ^ 53 ≤ g * u * 2 ^ 53 + w = le_of_mul-le-mul_right {k = c} (omega arith) C in
        record { most = omega arith; least = omega arith }

-- ---- the rounded value
module _ (s : Bool) (a c : ℕ) (C : 0 < c) (t : T (finite (round binary64 s a c))) where
  is : (below (round binary64 s a c) ≡ s) × (units (round binary64 s a c) ≡ grid binary64 a c)
  is = value_is (round binary64 s a c) s (grid binary64 a c) (round_has binary64 s a c (round_within binary64 s a c t))

  pub round_sign : below (round binary64 s a c) ≡ s
  round_sign = is.0

  pub round_units : units (round binary64 s a c) ≡ grid binary64 a c
  round_units = is.1

  pub round_whole : (w : ℕ) → a * 2 ^ 1074 ≡ w * c → Close (units (round binary64 s a c) * 2 ^ 53) (w * 2 ^ 53) w
  round_whole w e = subst (λ (g : ℕ). Close (g * 2 ^ 53) (w * 2 ^ 53) w) (sym round_units) (whole_of (grid binary64 a c) (a * 2 ^ 1074) c w C e (near (a * 2 ^ 1074) c C))

  pub round_product : (w : ℕ) → a * 2 ^ 1074 * 2 ^ 1074 ≡ w * c → Close (units (round binary64 s a c) * 2 ^ 1074 * 2 ^ 54) (w * 2 ^ 54) (2 * w + 2 ^ 53 * 2 ^ 1074)
  round_product w e =
      subst (λ (g : ℕ). Close (g * 2 ^ 1074 * 2 ^ 54) (w * 2 ^ 54) (2 * w + 2 ^ 53 * 2 ^ 1074)) (sym round_units)
      (product_of (grid binary64 a c) (a * 2 ^ 1074) c w (2 ^ 1074) C e (near (a * 2 ^ 1074) c C))
