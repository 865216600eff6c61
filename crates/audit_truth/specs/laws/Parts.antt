-- A value as what is added and what is taken off: products of two, and the order of two.
use Rattle.std.specs.Prelude.{◌≡◌, refl, Bool, true, false, cond, ℕ, ◌+◌, ◌*◌, ◌^◌, ◌≤◌, T, ℤ, Float}
use Rattle.std.proofs.Common.{sym, ◌∙◌, le_trans, le_of_eq, mul-le-mul_right, mul_right_comm, zero-mul, arith, ltb-false}
use Rattle.std.proofs.Math.Nat.{zero-div}
use Rattle.std.specs.Float.{nan, inf, fin}
use Rattle.std.specs.Float.Ieee.{up, down, unlike, lt, le}
use Rattle.std.specs.Float.Ieee.Fits.{down_pos}
use Rattle.std.specs.Float.Ieee.Nearest.{div_mono}
use Rattle.std.specs.Float.Ieee.Scale.{finite}
use Rattle.root.specs.Root.{units}
use Rattle.base.specs.common.laws.And.{holds}
use Rattle.root.specs.laws.Order.{lt_never, lt_trans, le_not_lt}
use Rattle.ring_area.specs.Area.{below, product_above, product_under}
use Rattle.audit_truth.specs.Exact.{plus_units, minus_units}

-- ---- products
pub above_parts : (x y : Float) → product_above x y ≡ plus_units x * plus_units y + minus_units x * minus_units y
above_parts x y = go (below x) (below y) (units x) (units y)
  where
    go : (s t : Bool) (u w : ℕ) → cond (unlike s t) 0 (u * w) ≡ cond s 0 u * cond t 0 w + cond s u 0 * cond t w 0
    go true true u w = omega arith
    go true false u w = omega arith
    go false true u w = omega arith
    go false false u w = omega arith

pub under_parts : (x y : Float) → product_under x y ≡ plus_units x * minus_units y + minus_units x * plus_units y
under_parts x y = go (below x) (below y) (units x) (units y)
  where
    go : (s t : Bool) (u w : ℕ) → cond (unlike s t) (u * w) 0 ≡ cond s 0 u * cond t w 0 + cond s u 0 * cond t 0 w
    go true true u w = omega arith
    go true false u w = omega arith
    go false true u w = omega arith
    go false false u w = omega arith

-- ---- the order
module _ (m : ℕ) (e : ℤ) (n : ℕ) (d : ℤ) where
  -- m * 2 ^ e is at most n * 2 ^ d
  at_most : m * up e * down d ≤ n * up d * down e → units (fin false m e) ≤ units (fin false n d)
  at_most h =
      div_mono (m * up e * 2 ^ 1074) (down e) (n * up d * 2 ^ 1074) (down d) (down_pos e) (down_pos d)
      (le_trans (le_of_eq (mul_right_comm (m * up e) (2 ^ 1074) (down d)))
      (le_trans (mul-le-mul_right (2 ^ 1074) h) (le_of_eq (mul_right_comm (n * up d) (down e) (2 ^ 1074)))))

  -- it is nothing
  none : m * up e * down d ≤ 0 → units (fin false m e) ≤ 0
  none h =
      le_trans
      (div_mono (m * up e * 2 ^ 1074) (down e) 0 (down d) (down_pos e) (down_pos d)
      (le_trans (le_of_eq (mul_right_comm (m * up e) (2 ^ 1074) (down d)))
      (le_trans (mul-le-mul_right (2 ^ 1074) h) (le_of_eq (zero-mul (2 ^ 1074) ∙ sym (zero-mul (down e)))))))
      (le_of_eq (zero-div (down d)))

pub not_over : (x y : Float) → T (finite x) → T (finite y) → lt y x ≡ false → plus_units x + minus_units y ≤ minus_units x + plus_units y
unfolding lt
not_over nan y p q h = absurd p
not_over (inf s) y p q h = absurd p
not_over (fin s m e) nan p q h = absurd q
not_over (fin s m e) (inf t) p q h = absurd q
not_over (fin false m e) (fin false n d) p q h = let g = at_most m e n d (ltb-false _ _ h) in plain (units (fin false m e)) (units (fin false n d)) g
  where
    plain : (a b : ℕ) → a ≤ b → a + 0 ≤ 0 + b
    plain a b h = omega arith
not_over (fin true m e) (fin false n d) p q h = least (units (fin true m e)) (units (fin false n d))
  where
    least : (a b : ℕ) → 0 + 0 ≤ a + b
    least a b = omega arith
not_over (fin false m e) (fin true n d) p q h =
    let k = ltb-false 0 (n * up d * down e + m * up e * down d) h in
    both (units (fin false m e)) (units (fin true n d)) (none m e n d (omega arith)) (none n d m e (omega arith))
  where
    both : (a b : ℕ) → a ≤ 0 → b ≤ 0 → a + b ≤ 0 + 0
    both a b h k = omega arith
not_over (fin true m e) (fin true n d) p q h = let g = at_most n d m e (ltb-false _ _ h) in plain (units (fin true m e)) (units (fin true n d)) g
  where
    plain : (a b : ℕ) → b ≤ a → 0 + b ≤ a + 0
    plain a b h = omega arith

turned : (x y : Float) → (T (lt y x) → ⊥) → lt y x ≡ false
turned x y h = go (lt y x) refl
  where
    go : (t : Bool) → lt y x ≡ t → t ≡ false
    go true e = absurd (h (holds e))
    go false e = refl

pub lt_turned : (x y : Float) → lt x y ≡ true → lt y x ≡ false
lt_turned x y h = turned x y (λ t. lt_never x (lt_trans x y x (holds h) t))

pub le_turned : (x y : Float) → le x y ≡ true → lt y x ≡ false
le_turned x y h = turned x y (le_not_lt x y (holds h))
