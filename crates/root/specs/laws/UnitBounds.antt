-- A bound on a float as a bound on its units, both ways, and the units of a power of two.
use Rattle.std.specs.Prelude.{◌≡◌, Bool, true, false, ℕ, zero, suc, ◌*◌, ◌^◌, ◌≤◌, ◌<◌, T, ℤ, pos, Float}
use Rattle.std.proofs.Common.{sym, ap, ◌∙◌, true≢false, zero-le, le_trans, le_of_eq, lt_irrefl, lt_of_lt_of_le, lt_of_le_of_lt, mul-le-mul_right, mul_right_comm, mul_comm, one-mul, zero-mul, div-one, mul-pos, zero-lt-suc, le_of_mul-le-mul_right, lt→ltb, pow_pos}
use Rattle.std.proofs.Math.Nat.{div-le_of_le-mul}
use Rattle.std.proofs.Math.Pow.{pow-lt}
use Rattle.std.specs.Float.{nan, inf, fin, binary64}
use Rattle.std.specs.Float.Ieee.{up, down, fits, lt}
use Rattle.base.specs.common.Binary64 as B
use Rattle.root.specs.Root.{units, Plus}
use Rattle.root.specs.Bounded.{Bounded}
use Rattle.root.specs.laws.Tests.{plus_above}
use Rattle.root.specs.laws.Units.{held_units, zero_units}

pub bounded_units : (x : Float) (k : ℕ) → Bounded k x → units x ≤ 2 ^ k * 2 ^ 1074
bounded_units nan k b = absurd b
bounded_units (inf s) k b = absurd b
bounded_units (fin s m e) k b =
    div-le_of_le-mul (down e) (le_trans (mul-le-mul_right (2 ^ 1074) b) (le_of_eq (mul_right_comm (2 ^ k) (down e) (2 ^ 1074) ∙ mul_comm (2 ^ k * 2 ^ 1074) (down e))))

pub zero_bounded : (s : Bool) (e : ℤ) (k : ℕ) → Bounded k (fin s zero e)
zero_bounded s e k = le_trans (le_of_eq (zero-mul (up e))) zero-le

pub units_bounded : (v : Float) (k : ℕ) → T (fits binary64 v) → Plus v → units v ≤ 2 ^ k * 2 ^ 1074 → Bounded k v
units_bounded nan k f p h = p
units_bounded (inf s) k f p h = p
units_bounded (fin s zero e) k f p h = zero_bounded s e k
units_bounded (fin s (suc m) e) k f p h =
    le_of_mul-le-mul_right
    (le_trans (le_of_eq (sym (held_units s m e f).exact))
    (le_trans (mul-le-mul_right (down e) h) (le_of_eq (mul_right_comm (2 ^ k) (2 ^ 1074) (down e)))))
    (pow_pos 1074)

abbrev pub power : ℕ → Float
power k = fin false 1 (pos k)

pub power_fits : (k : ℕ) → k < 1024 → T (fits binary64 (power k))
unfolding fits
power_fits k h = lt→ltb (1 * 2 ^ k) (2 ^ 1024 * 1) (lt_of_le_of_lt (le_of_eq (one-mul (2 ^ k))) (pow-lt h))

pub power_units : (k : ℕ) → units (power k) ≡ 2 ^ k * 2 ^ 1074
power_units k = div-one (1 * 2 ^ k * 2 ^ 1074) ∙ ap (λ (a : ℕ). a * 2 ^ 1074) (one-mul (2 ^ k))

pub some_units : (m : ℕ) (e : ℤ) → T (fits binary64 (fin false (suc m) e)) → 0 < units (fin false (suc m) e)
some_units m e f = let w = held_units false m e f in lt_of_lt_of_le (mul-pos (zero-lt-suc m) (pow_pos w.zeros)) (le_of_eq (sym w.value))

pub above_zero : (r : Float) → Plus r → 0 < units r → T (lt B.zero r)
above_zero nan p h = absurd p
above_zero (inf s) p h = absurd p
above_zero (fin s zero e) p h = absurd (lt_irrefl 0 (lt_of_lt_of_le h (le_of_eq (zero_units s e))))
above_zero (fin true (suc m) e) p h = absurd (true≢false p)
above_zero (fin false (suc m) e) p h = plus_above m e
