-- Squares of whole numbers, and squares of powers of 2.
use Rattle.std.specs.Prelude.{◌≡◌, ◌⊎◌, ℕ, suc, ◌+◌, ◌*◌, ◌^◌, ◌≤◌, ◌<◌}
use Rattle.std.proofs.Common.{sym, ap, ◌∙◌, inl, inr, ⊎_elim, mul-le-mul, lt_of_lt_of_le, arith, pow_pos, pow-add}
use Rattle.base.specs.common.laws.Decide.{lt_or_ge}
use Rattle.root.specs.whole_root.Near.{sq}

pub le_or_lt : (a b : ℕ) → (a ≤ b) ⊎ (b < a)
le_or_lt a b = ⊎_elim inr inl (lt_or_ge b a)

pub sq_mono : {a b : ℕ} → a ≤ b → sq a ≤ sq b
sq_mono h = mul-le-mul h h

pub sq_lt : {a b : ℕ} → a < b → sq a < sq b
sq_lt {a} {b} h = lt_of_lt_of_le (grow a) (sq_mono h)
  where
    grow : (a : ℕ) → sq a < sq (suc a)
    grow a = omega arith

pub sq_pos : (h : ℕ) → 0 < sq (2 ^ h)
sq_pos h = sq_lt (pow_pos h)

pub pow_sq : (k h : ℕ) → 2 ^ k * sq (2 ^ h) ≡ 2 ^ (k + (h + h))
pow_sq k h = sym (pow-add 2 k (h + h) ∙ ap (λ (a : ℕ). 2 ^ k * a) (pow-add 2 h h))
