-- Equality of floats is equality of the exact values: what binary64 holds is a whole number of units, and -0 is 0.
use Rattle.std.specs.Prelude.{◌≡◌, Bool, true, false, cond, ℕ, zero, suc, ◌+◌, ◌-◌, ◌*◌, ◌^◌, ◌≤◌, ◌<◌, T, eqb, ℤ, Float}
use Rattle.std.proofs.Math.Path.{refl}
use Rattle.std.proofs.Common.{sym, ap, ◌∙◌, mul_right_comm, mul-pos, eq-eqb, ne_eqb, eqb-true, pow_pos}
use Rattle.std.proofs.Math.Nat.{eq_of_mul-eq-mul_right, eq_of_mul-eq-mul_left}
use native.Mathlib.Omega.{arith}
use Rattle.std.specs.Float.{nan, inf, fin, binary64}
use Rattle.std.specs.Float.Ieee.{up, down, level, eq, fits}
use Rattle.std.specs.Float.Ieee.Fits.{down_pos}
use Rattle.std.specs.Float.Ieee.Scale.{finite}
use Rattle.base.specs.common.laws.And.{and_left, and_right}
use Rattle.ring_area.specs.lowest.laws.Loops.{no_both}
use Rattle.root.specs.Root.{units}
use Rattle.root.specs.laws.Units.{held_units, zero_units}
use Rattle.root.specs.laws.UnitBounds.{bounded_units}
use Rattle.ring_area.specs.Area.{below}
use Rattle.audit_truth.specs.Exact.{plus_units, minus_units}
use Rattle.audit_truth.specs.Held.{HeldWithin}
use Rattle.audit_truth.specs.laws.Sides.{held_finite}
use Rattle.certifying.specs.truth.Places.{lift, raised_units}

-- what binary64 holds is so many units
exact : (s : Bool) (m : ℕ) (e : ℤ) → T (fits binary64 (fin s m e)) → units (fin s m e) * down e ≡ m * up e * 2 ^ 1074
exact s zero e f = ap (λ (i : ℕ). i * down e) (zero_units s e) ∙ plain (down e) (up e) (2 ^ 1074)
  where
    plain : (d u i : ℕ) → 0 * d ≡ 0 * u * i
    plain d u i = omega arith
exact s (suc m) e f = (held_units s m e f).exact

module _ (s : Bool) (m : ℕ) (e : ℤ) (t : Bool) (n : ℕ) (d : ℤ) (F : T (fits binary64 (fin s m e))) (G : T (fits binary64 (fin t n d))) where
  abbrev a : ℕ
  a = m * up e * down d

  abbrev b : ℕ
  b = n * up d * down e

  -- in units, both times what is below the line
  left : a * 2 ^ 1074 ≡ units (fin s m e) * (down e * down d)
  left = mul_right_comm (m * up e) (down d) (2 ^ 1074) ∙ ap (λ (i : ℕ). i * down d) (sym (exact s m e F)) ∙ plain (units (fin s m e)) (down e) (down d)
    where
      plain : (u x y : ℕ) → u * x * y ≡ u * (x * y)
      plain u x y = omega arith

  right : b * 2 ^ 1074 ≡ units (fin t n d) * (down e * down d)
  right = mul_right_comm (n * up d) (down e) (2 ^ 1074) ∙ ap (λ (i : ℕ). i * down e) (sym (exact t n d G)) ∙ plain (units (fin t n d)) (down e) (down d)
    where
      plain : (u x y : ℕ) → u * y * x ≡ u * (x * y)
      plain u x y = omega arith

  units_of : a ≡ b → units (fin s m e) ≡ units (fin t n d)
  units_of h = eq_of_mul-eq-mul_right (down e * down d) (mul-pos (down_pos e) (down_pos d)) _ _ (sym left ∙ ap (λ (i : ℕ). i * 2 ^ 1074) h ∙ right)

  parts_of : units (fin s m e) ≡ units (fin t n d) → a ≡ b
  parts_of h = eq_of_mul-eq-mul_right (2 ^ 1074) (pow_pos 1074) _ _ (left ∙ ap (λ (i : ℕ). i * (down e * down d)) h ∙ sym right)

  nothing : a ≡ 0 → units (fin s m e) ≡ 0
  nothing h = eq_of_mul-eq-mul_right (down e * down d) (mul-pos (down_pos e) (down_pos d)) _ _ (sym left ∙ ap (λ (i : ℕ). i * 2 ^ 1074) h ∙ plain (2 ^ 1074) (down e * down d))
    where
      plain : (i j : ℕ) → 0 * i ≡ 0 * j
      plain i j = omega arith

  nothing_back : units (fin s m e) ≡ 0 → a ≡ 0
  nothing_back h = eq_of_mul-eq-mul_right (2 ^ 1074) (pow_pos 1074) _ _ (left ∙ ap (λ (i : ℕ). i * (down e * down d)) h ∙ plain (2 ^ 1074) (down e * down d))
    where
      plain : (i j : ℕ) → 0 * j ≡ 0 * i
      plain i j = omega arith

-- ---- by signs: a and b are equal where u and w are, and a is nothing where u is
module _ (a b u w : ℕ) (there : a ≡ b → u ≡ w) (back : u ≡ w → a ≡ b) (none : a ≡ 0 → u ≡ 0) (none_back : u ≡ 0 → a ≡ 0) where
  both_equal : (s t : Bool) → level s a t b ≡ true → cond s 0 u + cond t w 0 ≡ cond t 0 w + cond s u 0
  both_equal false false h = plain u w (there (eqb-true a b (and_left (eqb a b) true h)))
    where
      plain : (u w : ℕ) → u ≡ w → u + 0 ≡ w + 0
      plain u w e = omega arith
  both_equal true true h = plain u w (there (eqb-true a b (and_left (eqb a b) true h)))
    where
      plain : (u w : ℕ) → u ≡ w → 0 + w ≡ 0 + u
      plain u w e = omega arith
  both_equal false true h = plain u w (there (eqb-true a b (and_left (eqb a b) (eqb a 0) h))) (none (eqb-true a 0 (and_right (eqb a b) (eqb a 0) h)))
    where
      plain : (u w : ℕ) → u ≡ w → u ≡ 0 → u + w ≡ 0 + 0
      plain u w e f = omega arith
  both_equal true false h = plain u w (there (eqb-true a b (and_left (eqb a b) (eqb a 0) h))) (none (eqb-true a 0 (and_right (eqb a b) (eqb a 0) h)))
    where
      plain : (u w : ℕ) → u ≡ w → u ≡ 0 → 0 + 0 ≡ w + u
      plain u w e f = omega arith

  equal_back : (s t : Bool) → cond s 0 u + cond t w 0 ≡ cond t 0 w + cond s u 0 → level s a t b ≡ true
  equal_back false false h = rw (eq-eqb a b (back (omega arith))) refl
  equal_back true true h = rw (eq-eqb a b (back (omega arith))) refl
  equal_back false true h = let z : u ≡ 0 = omega arith in let q : u ≡ w = omega arith in rw (eq-eqb a b (back q), eq-eqb a 0 (none_back z)) refl
  equal_back true false h = let z : u ≡ 0 = omega arith in let q : u ≡ w = omega arith in rw (eq-eqb a b (back q), eq-eqb a 0 (none_back z)) refl

-- ---- of two values of binary64
level_yes : (x y : Float) → T (fits binary64 x) → T (fits binary64 y) → T (finite x) → T (finite y) → eq x y ≡ true → plus_units x + minus_units y ≡ plus_units y + minus_units x
unfolding eq
level_yes nan y F G p q h = absurd p
level_yes (inf s) y F G p q h = absurd p
level_yes (fin s m e) nan F G p q h = absurd q
level_yes (fin s m e) (inf t) F G p q h = absurd q
level_yes (fin s m e) (fin t n d) F G p q h =
    both_equal (m * up e * down d) (n * up d * down e) (units (fin s m e)) (units (fin t n d)) (units_of s m e t n d F G) (parts_of s m e t n d F G) (nothing s m e t n d F G)
    (nothing_back s m e t n d F G) s t h

level_back : (x y : Float) → T (fits binary64 x) → T (fits binary64 y) → T (finite x) → T (finite y) → plus_units x + minus_units y ≡ plus_units y + minus_units x → eq x y ≡ true
unfolding eq
level_back nan y F G p q h = absurd p
level_back (inf s) y F G p q h = absurd p
level_back (fin s m e) nan F G p q h = absurd q
level_back (fin s m e) (inf t) F G p q h = absurd q
level_back (fin s m e) (fin t n d) F G p q h =
    equal_back (m * up e * down d) (n * up d * down e) (units (fin s m e)) (units (fin t n d)) (units_of s m e t n d F G) (parts_of s m e t n d F G) (nothing s m e t n d F G)
    (nothing_back s m e t n d F G) s t h

-- ---- raisedUnits
pub minus_most : {x : Float} → HeldWithin 400 x → minus_units x ≤ lift
minus_most {x} h = go (below x) (units x) (bounded_units x 400 h.bounded)
  where
    least : (n : ℕ) → 0 ≤ n
    least n = omega arith

    go : (t : Bool) (u : ℕ) → u ≤ lift → cond t u 0 ≤ lift
    go true u k = k
    go false u k = least lift

module _ (c : ℕ) (pos : 0 < c) (x y : Float) (h : HeldWithin 400 x) (g : HeldWithin 400 y) where
  pub eq_raised : eq x y ≡ eqb (c * raised_units x) (c * raised_units y)
  unfolding raised_units
  eq_raised = go (eq x y) refl
    where
      same : (a b i j l : ℕ) → i ≤ l → j ≤ l → a + j ≡ b + i → a + l - i ≡ b + l - j
      same a b i j l p q e = omega arith

      same_back : (a b i j l : ℕ) → i ≤ l → j ≤ l → a + l - i ≡ b + l - j → a + j ≡ b + i
      same_back a b i j l p q e = omega arith

      go : (t : Bool) → eq x y ≡ t → t ≡ eqb (c * (plus_units x + lift - minus_units x)) (c * (plus_units y + lift - minus_units y))
      go true e =
          sym (eq-eqb _ _ (ap (λ (i : ℕ). c * i) (same (plus_units x) (plus_units y) (minus_units x) (minus_units y) lift (minus_most h) (minus_most g)
          (level_yes x y h.held g.held (held_finite h) (held_finite g) e))))
      go false e =
          sym (ne_eqb _ _ (λ q. no_both (sym (level_back x y h.held g.held (held_finite h) (held_finite g)
          (same_back (plus_units x) (plus_units y) (minus_units x) (minus_units y) lift (minus_most h) (minus_most g) (eq_of_mul-eq-mul_left c pos _ _ q))) ∙ e)))
