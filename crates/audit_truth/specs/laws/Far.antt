-- The tolerance is 2 ^ -bits, and a value times it is no more than 2 ^ -bits of the value and a unit: a power of two rounds only what is cut off below a unit.
use Rattle.std.specs.Prelude.{◌≡◌, refl, Bool, false, ℕ, zero, suc, ◌+◌, ◌-◌, ◌*◌, ◌/◌, ◌%◌, ◌^◌, ◌≤◌, ◌<◌, T, ℤ, Float}
use Rattle.std.proofs.Common.{sym, ap, ◌∙◌, ⊎_elim, le_trans, le_of_eq, le_of_lt, lt_of_lt_of_le, lt_of_le_of_lt, mul_assoc, mul_right_comm, mul-le-mul_right, le_of_mul-le-mul_right, div-lt_iff_lt-mul, div-mul-le_self, zero-mul, one-mul, lt_irrefl, eq-zero-or-pos, le-mul_of_pos_right, arith, lit<, pow-add, pow_pos, pow_mono, shl_lt}
use Prim.{tt}
use Rattle.std.proofs.Math.Nat.{eq_of_mul-eq-mul_right, lt-div-mul-add}
use Rattle.std.specs.Float.{nan, inf, fin, binary64}
use Rattle.std.specs.Float.Ieee.{up, down, unlike, fits, round, mul}
use Rattle.std.specs.Float.Ieee.Bits.{of_bits-fits}
use Rattle.std.specs.Float.Ieee.Order.{drop, kept}
use Rattle.std.specs.Float.Ieee.Scale.{finite}
use Rattle.base.specs.common.laws.Decide.{lt_or_ge}
use Rattle.base.specs.common.Binary64.{◌⊠◌}
use Rattle.root.specs.Root.{units}
use Rattle.root.specs.Bounded.{Bounded}
use Rattle.root.specs.laws.UnitBounds.{zero_bounded, units_bounded}
use Rattle.root.specs.laws.Rounding.{grid_most}
use Rattle.root.specs.laws.Units.{held_units, zero_units}
use Rattle.ring_area.specs.laws.Splits.{split_high}
use Rattle.auditing.specs.nearer.Nearer.{tolerance_of}
use Rattle.audit_truth.specs.laws.Operations.{product, below_c}
use Rattle.audit_truth.specs.laws.Roundings.{round_units}

-- ---- the tolerance
none : 0 ≡ 2 ^ 1074 → ⊥
none z = lt_irrefl 0 (lt_of_lt_of_le (pow_pos 1074) (le_of_eq (sym z)))

pub tolerance_fits : (bits : ℕ) → T (fits binary64 (tolerance_of bits))
unfolding tolerance_of
tolerance_fits bits = of_bits-fits binary64 ((1023 - bits) * 2 ^ 52)

tolerance_units : (bits : ℕ) → bits ≤ 52 → units (tolerance_of bits) * 2 ^ bits ≡ 2 ^ 1074
unfolding tolerance_of
tolerance_units bits h =
    let k = 1023 - bits in
    let x : k * 2 ^ 52 % 2 ^ 63 / 2 ^ 52 ≡ k = omega arith in
    let t : k * 2 ^ 52 % 2 ^ 52 ≡ 0 = omega arith in
    let z : 52 + (k - 1 + bits) ≡ 1074 = omega arith in
    let s = split_high (k * 2 ^ 52) (record { exponent = omega arith }) (λ z. omega arith) in
    ap (λ (i : ℕ). i * 2 ^ bits) (s.value ∙ ap (λ (i : ℕ). (2 ^ 52 + i) * 2 ^ (k * 2 ^ 52 % 2 ^ 63 / 2 ^ 52 - 1)) t ∙ ap (λ (i : ℕ). (2 ^ 52 + 0) * 2 ^ (i - 1)) x)
    ∙ mul_assoc (2 ^ 52) (2 ^ (k - 1)) (2 ^ bits)
    ∙ ap (λ (i : ℕ). 2 ^ 52 * i) (sym (pow-add 2 (k - 1) bits))
    ∙ sym (pow-add 2 52 (k - 1 + bits))
    ∙ ap (λ (i : ℕ). 2 ^ i) z

bounded_by : (x : Float) (k : ℕ) → T (fits binary64 x) → 0 < units x → units x ≤ 2 ^ k * 2 ^ 1074 → Bounded k x
unfolding fits
bounded_by nan k f p h = absurd (lt_irrefl 0 p)
bounded_by (inf s) k f p h = absurd (lt_irrefl 0 p)
bounded_by (fin s zero e) k f p h = zero_bounded s e k
bounded_by (fin s (suc m) e) k f p h = units_bounded (fin false (suc m) e) k f refl h

pub tolerance_bounded : (bits : ℕ) → bits ≤ 52 → Bounded 0 (tolerance_of bits)
tolerance_bounded bits h =
    let e = tolerance_units bits h in
    bounded_by (tolerance_of bits) 0 (tolerance_fits bits)
    (⊎_elim (λ z. absurd (none (sym (ap (λ (i : ℕ). i * 2 ^ bits) z ∙ zero-mul (2 ^ bits)) ∙ e))) (λ z. z) (eq-zero-or-pos (units (tolerance_of bits))))
    (le_trans (le-mul_of_pos_right (units (tolerance_of bits)) (pow_pos bits)) (le_of_eq (e ∙ sym (one-mul (2 ^ 1074)))))

-- ---- n / c is u over 2 ^ bits, and u has 53 digits and zeros after them
module _ (n c u k j bits : ℕ) (C : 0 < c) (e : n * 2 ^ bits ≡ u * c) (K : k < 2 ^ 53) (v : u ≡ k * 2 ^ j) where
  exact : bits ≤ j → kept 53 n c * 2 ^ drop 53 n c * 2 ^ bits ≤ u
  exact h =
      let p : k * 2 ^ (j - bits) * 2 ^ bits ≡ u =
      mul_assoc k (2 ^ (j - bits)) (2 ^ bits) ∙ ap (λ (i : ℕ). k * i) (sym (pow-add 2 (j - bits) bits) ∙ ap (λ (i : ℕ). 2 ^ i) (omega arith)) ∙ sym v in
      let l : n ≤ k * 2 ^ (j - bits) * c =
      le_of_mul-le-mul_right (le_of_eq (e ∙ ap (λ (i : ℕ). i * c) (sym p) ∙ mul_right_comm (k * 2 ^ (j - bits)) (2 ^ bits) c)) (pow_pos bits) in
      le_trans (mul-le-mul_right (2 ^ bits) (grid_most 53 n c k (j - bits) C K l)) (le_of_eq p)

  cut : j < bits → kept 53 n c * 2 ^ drop 53 n c * 2 ^ bits ≤ u + 2 ^ bits
  cut h =
      let w = 2 ^ bits in
      let small : u < 2 ^ 52 * w = lt_of_le_of_lt (le_of_eq v) (lt_of_lt_of_le (shl_lt 53 j K) (le_trans (pow_mono (omega arith)) (le_of_eq (pow-add 2 52 bits)))) in
      let q : u / w < 2 ^ 52 = (div-lt_iff_lt-mul (pow_pos bits)).1 small in
      let over : u < u / w * w + w = lt-div-mul-add (pow_pos bits) in
      let l : n ≤ (u / w + 1) * 2 ^ 0 * c = le_of_mul-le-mul_right {k = w} (le_trans (le_of_eq e) (le_trans (mul-le-mul_right c (le_of_lt over)) (le_of_eq (even (u / w) w c)))) (pow_pos bits) in
      let g = grid_most 53 n c (u / w + 1) 0 C (omega arith) l in
      le_trans (mul-le-mul_right w g) (last (u / w) w u (div-mul-le_self u w))
    where
      even : (q w c : ℕ) → (q * w + w) * c ≡ (q + 1) * 1 * c * w
      even q w c = omega arith

      last : (q w u : ℕ) → q * w ≤ u → (q + 1) * 1 * w ≤ u + w
      last q w u h = omega arith

  times_power : kept 53 n c * 2 ^ drop 53 n c * 2 ^ bits ≤ u + 2 ^ bits
  times_power = ⊎_elim cut (λ h. le_trans (exact h) (more u (2 ^ bits))) (lt_or_ge j bits)
    where
      more : (u w : ℕ) → u ≤ u + w
      more u w = omega arith

-- ---- a value times the tolerance
digits : (s : Bool) (m : ℕ) (e : ℤ) → T (fits binary64 (fin s m e)) → (k : ℕ) × (j : ℕ) × (k < 2 ^ 53) × (units (fin s m e) ≡ k * 2 ^ j)
digits s zero e f = (0, 0, lit< tt, zero_units s e)
digits s (suc m) e f = let w = held_units s m e f in (suc m, w.zeros, w.digits, w.value)

module _ (s : Bool) (m : ℕ) (e : ℤ) (t : Bool) (n : ℕ) (d : ℤ) (F : T (fits binary64 (fin s m e))) (G : T (fits binary64 (fin t n d))) (bits : ℕ)
    (power : units (fin t n d) * 2 ^ bits ≡ 2 ^ 1074) (r : T (finite (round binary64 (unlike s t) (m * up e * (n * up d)) (down e * down d)))) where
  over_power : m * up e * (n * up d) * 2 ^ 1074 * 2 ^ bits ≡ units (fin s m e) * (down e * down d)
  over_power =
      eq_of_mul-eq-mul_right (2 ^ 1074) (pow_pos 1074) _ _
      (mul_right_comm (m * up e * (n * up d) * 2 ^ 1074) (2 ^ bits) (2 ^ 1074)
      ∙ ap (λ (i : ℕ). i * 2 ^ bits) (product s m e t n d F G)
      ∙ moved (units (fin s m e)) (units (fin t n d)) (down e * down d) (2 ^ bits)
      ∙ ap (λ (i : ℕ). units (fin s m e) * (down e * down d) * i) power)
    where
      moved : (a b c w : ℕ) → a * b * c * w ≡ a * c * (b * w)
      moved a b c w = omega arith

  far_fin : units (round binary64 (unlike s t) (m * up e * (n * up d)) (down e * down d)) * 2 ^ bits ≤ units (fin s m e) + 2 ^ bits
  far_fin =
      let w = digits s m e F in
      let C = below_c s m e t n d F G in
      le_trans (le_of_eq (ap (λ (i : ℕ). i * 2 ^ bits) (round_units (unlike s t) (m * up e * (n * up d)) (down e * down d) C r)))
      (times_power (m * up e * (n * up d) * 2 ^ 1074) (down e * down d) (units (fin s m e)) w.0 w.1 bits C over_power w.2 w.3)

far_most : (x t : Float) (bits : ℕ) → T (fits binary64 x) → T (fits binary64 t) → T (finite x) → units t * 2 ^ bits ≡ 2 ^ 1074 → T (finite (x ⊠ t))
    → units (x ⊠ t) * 2 ^ bits ≤ units x + 2 ^ bits
unfolding mul
far_most nan t bits F G p h r = absurd p
far_most (inf s) t bits F G p h r = absurd p
far_most (fin s m e) nan bits F G p h r = absurd r
far_most (fin s m e) (inf t) bits F G p h r = absurd (none (sym (zero-mul (2 ^ bits)) ∙ h))
far_most (fin s m e) (fin t n d) bits F G p h r = far_fin s m e t n d F G bits h r

pub far_times : (x : Float) (bits : ℕ) → bits ≤ 52 → T (fits binary64 x) → T (finite x) → T (finite (x ⊠ tolerance_of bits))
    → units (x ⊠ tolerance_of bits) * 2 ^ bits ≤ units x + 2 ^ bits
far_times x bits h F p r = far_most x (tolerance_of bits) bits F (tolerance_fits bits) p (tolerance_units bits h) r
