-- Theorem: the root of a bounded value is bounded, by half the exponent, and that of a value above 0 is above 0.
-- Each is said of every root of the definition (`root-..`), and of the one that computes (`sqrt-..`).
use Rattle.std.specs.Prelude.{◌≡◌, refl, true, false, ℕ, zero, suc, ◌+◌, ◌*◌, ◌^◌, ◌<◌, T, negsuc, Float}
use Rattle.std.proofs.Common.{sym, ap, ◌∙◌, subst, le_trans, le_of_eq, lt_of_lt_of_le, mul-le-mul_right, arith, pow-add, pow_pos}
use Rattle.std.specs.Float.{nan, inf, fin, binary64}
use Rattle.std.specs.Float.Ieee.{fits, lt, le, of_bits}
use Rattle.base.specs.common.Binary64 as B
use Rattle.root.specs.whole_root.Near.{sq}
use Rattle.root.specs.Root.{units, Root}
use Rattle.root.specs.Bounded.{Bounded}
use Rattle.root.specs.laws.Tests.{minus_down, zero_not_above}
use Rattle.root.specs.Unique.{at_most, at_least}
use Rattle.root.specs.Sqrt.{sqrt_of}
use Rattle.root.specs.SqrtIsRoot.{sqrt_root}
use Rattle.root.specs.laws.UnitBounds.{bounded_units, zero_bounded, units_bounded, power, power_fits, power_units, some_units, above_zero}

-- ---- the root of a bounded value

pub root_bound : (x r : Float) (k : ℕ) → k < 1024 → T (le B.zero x) → Root x r → Bounded (k + k) x → Bounded k r
root_bound nan r k K z h b = absurd b
root_bound (inf s) r k K z h b = absurd b
root_bound (fin s zero e) r k K z h b = subst (Bounded k) (sym h) (zero_bounded s e k)
root_bound (fin true (suc m) e) r k K z h b = absurd (subst T (minus_down m e) z)
root_bound (fin false (suc m) e) r k K z h b =
    units_bounded r k h.held h.plus
    (le_trans (at_most h (power k) (power_fits k K) refl (le_trans (mul-le-mul_right (2 ^ 1074) (bounded_units (fin false (suc m) e) (k + k) b)) (le_of_eq (square k)))) (le_of_eq (power_units k)))
  where
    group : (a b : ℕ) → a * a * b * b ≡ sq (a * b)
    group a b = omega arith

    square : (k : ℕ) → 2 ^ (k + k) * 2 ^ 1074 * 2 ^ 1074 ≡ sq (units (power k))
    square k = ap (λ (a : ℕ). a * 2 ^ 1074 * 2 ^ 1074) (pow-add 2 k k) ∙ group (2 ^ k) (2 ^ 1074) ∙ ap sq (sym (power_units k))

pub sqrt_bound : (x : Float) (k : ℕ) → k < 1024 → T (fits binary64 x) → T (le B.zero x) → Bounded (k + k) x → Bounded k (sqrt_of x)
sqrt_bound x k K f z b = root_bound x (sqrt_of x) k K z (sqrt_root x f) b

-- ---- the root of what is above 0

-- in units, the root of 1 is 2 ^ 537, and a root falls nowhere
pub root_positive : (x r : Float) → T (fits binary64 x) → T (lt B.zero x) → Root x r → T (lt B.zero r)
unfolding lt fits of_bits
root_positive nan r f p h = absurd p
root_positive (inf true) r f p h = absurd p
root_positive (inf false) r f p h = subst (λ (v : Float). T (lt B.zero v)) (sym h) tt
root_positive (fin s zero e) r f p h = absurd (zero_not_above s e p)
root_positive (fin true (suc m) e) r f p h = absurd p
root_positive (fin false (suc m) e) r f p h =
    above_zero r h.plus
    (lt_of_lt_of_le (pow_pos 537)
    (at_least h (fin false 1 (negsuc 536)) tt refl (mul-le-mul_right (2 ^ 1074) (some_units m e f))))

pub sqrt_positive : (x : Float) → T (fits binary64 x) → T (lt B.zero x) → T (lt B.zero (sqrt_of x))
sqrt_positive x f p = root_positive x (sqrt_of x) f p (sqrt_root x f)
