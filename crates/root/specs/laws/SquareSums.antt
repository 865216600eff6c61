-- Squares and sums of them are not below 0, and a sum is as large as each of its parts, where that is a value's size.
use Rattle.std.specs.Prelude.{◌≡◌, true, false, ℕ, ◌+◌, ◌*◌, ◌^◌, ◌≤◌, T, Float}
use Rattle.std.proofs.Common.{sym, ap, ◌∙◌, true≢false, le_trans, le_of_eq, mul-le-mul_right, add_comm, mul_assoc, mul_comm, mul_right_comm, mul-pos, arith}
use Rattle.std.specs.Float.{nan, inf, fin, binary64}
use Rattle.std.specs.Float.Ieee.{up, down, round, add, mul, sum}
use Rattle.std.specs.Float.Ieee.Fits.{down_pos}
use Rattle.std.specs.Float.Ieee.Scale.{grid, finite}
use Rattle.base.specs.common.Binary64.{◌⊞◌, ◌⊠◌}
use Rattle.root.specs.Root.{Plus}
use Rattle.root.specs.laws.Rounding.{round_has, round_within}
use Rattle.root.specs.laws.Sizes.{AtLeast, HeldFraction, round_least}
use Rattle.root.specs.laws.SqrtSizes.{value_plus}

round_plus : (a c : ℕ) → T (finite (round binary64 false a c)) → Plus (round binary64 false a c)
round_plus a c t = value_plus (round binary64 false a c) (grid binary64 a c) (2 ^ 1074) (round_has binary64 false a c (round_within binary64 false a c t))

pub square_plus : (z : Float) → T (finite (z ⊠ z)) → Plus (z ⊠ z)
unfolding mul
square_plus nan t = t
square_plus (inf true) t = t
square_plus (inf false) t = t
square_plus (fin true m e) t = round_plus (m * up e * (m * up e)) (down e * down e) t
square_plus (fin false m e) t = round_plus (m * up e * (m * up e)) (down e * down e) t

pub sum_plus : (p q : Float) → T (finite (p ⊞ q)) → Plus p → Plus q → Plus (p ⊞ q)
unfolding add sum
sum_plus nan q t P Q = absurd P
sum_plus (inf s) q t P Q = absurd P
sum_plus (fin s m e) nan t P Q = absurd Q
sum_plus (fin s m e) (inf u) t P Q = absurd Q
sum_plus (fin true m e) (fin u n d) t P Q = absurd (true≢false P)
sum_plus (fin false m e) (fin true n d) t P Q = absurd (true≢false Q)
sum_plus (fin false m e) (fin false n d) t P Q = round_plus (m * up e * down d + n * up d * down e) (down e * down d) t

-- it is as large as each of them, where that is a value's size
pub sum_least : (p q : Float) (n j : ℕ) → T (finite (p ⊞ q)) → Plus p → Plus q → HeldFraction n j → AtLeast n j p → AtLeast n j (p ⊞ q)
unfolding add sum
sum_least nan q n j t P Q v h = absurd P
sum_least (inf s) q n j t P Q v h = absurd P
sum_least (fin s m e) nan n j t P Q v h = absurd Q
sum_least (fin s m e) (inf u) n j t P Q v h = absurd Q
sum_least (fin true m e) (fin u k d) n j t P Q v h = absurd (true≢false P)
sum_least (fin false m e) (fin true k d) n j t P Q v h = absurd (true≢false Q)
sum_least (fin false m e) (fin false k d) n j t P Q v h =
    let a = m * up e * down d in
    let b = k * up d * down e in
    round_least false (a + b) (down e * down d) n j (mul-pos (down_pos e) (down_pos d)) v t
    (le_trans (le_of_eq (sym (mul_assoc n (down e) (down d))))
    (le_trans (mul-le-mul_right (down d) h)
    (le_trans (le_of_eq (mul_right_comm (m * up e) (2 ^ j) (down d))) (mul-le-mul_right (2 ^ j) (more a b)))))
  where
    more : (a b : ℕ) → a ≤ a + b
    more a b = omega arith

pub sum_comm : (p q : Float) → Plus p → Plus q → p ⊞ q ≡ q ⊞ p
unfolding add sum
sum_comm nan q P Q = absurd P
sum_comm (inf s) q P Q = absurd P
sum_comm (fin s m e) nan P Q = absurd Q
sum_comm (fin s m e) (inf u) P Q = absurd Q
sum_comm (fin true m e) (fin u n d) P Q = absurd (true≢false P)
sum_comm (fin false m e) (fin true n d) P Q = absurd (true≢false Q)
sum_comm (fin false m e) (fin false n d) P Q =
    ap (λ (x : ℕ). round binary64 false x (down e * down d)) (add_comm (m * up e * down d) (n * up d * down e))
    ∙ ap (λ (x : ℕ). round binary64 false (n * up d * down e + m * up e * down d) x) (mul_comm (down e) (down d))
