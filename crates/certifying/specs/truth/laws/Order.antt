-- The order of floats is the order of the exact values: what is less in floats is less in units, moved up.
use Rattle.std.specs.Prelude.{◌≡◌, Bool, true, false, ◌||◌, ℕ, ◌+◌, ◌-◌, ◌*◌, ◌≤◌, ◌<◌, T, Float}
use Rattle.std.proofs.Common.{◌∙◌, ⊎_elim, mul-le-mul_left, le_antisymm, arith, eq-eqb}
use Prim.{tt}
use Rattle.std.specs.Float.Ieee.{eq, lt, le}
use Rattle.base.specs.common.laws.And.{holds}
use Rattle.base.specs.common.laws.Decide.{lt_or_ge}
use Rattle.root.specs.laws.Order.{le_not_lt}
use Rattle.audit_truth.specs.Exact.{plus_units, minus_units}
use Rattle.audit_truth.specs.Held.{HeldWithin}
use Rattle.audit_truth.specs.laws.Parts.{not_over, lt_turned}
use Rattle.audit_truth.specs.laws.Sides.{held_finite}
use Rattle.certifying.specs.truth.Places.{lift, raised_units}
use Rattle.certifying.specs.truth.laws.Equal.{minus_most, eq_raised}

level_le : (x y : Float) → eq x y ≡ true → T (le x y)
unfolding le
level_le x y e = go (lt x y)
  where
    go : (t : Bool) → T (t || eq x y)
    go true = tt
    go false = holds e

raised_order : (x y : Float) → HeldWithin 400 x → HeldWithin 400 y → lt x y ≡ true → raised_units x ≤ raised_units y
unfolding raised_units
raised_order x y h g e =
    moved (plus_units x) (minus_units x) (plus_units y) (minus_units y) lift (minus_most h) (minus_most g) (not_over x y (held_finite h) (held_finite g) (lt_turned x y e))
  where
    moved : (a i b j l : ℕ) → i ≤ l → j ≤ l → a + j ≤ i + b → a + l - i ≤ b + l - j
    moved a i b j l p q r = omega arith

pub lt_raised : (c : ℕ) → 0 < c → (x y : Float) → HeldWithin 400 x → HeldWithin 400 y → lt x y ≡ true → c * raised_units x < c * raised_units y
lt_raised c pos x y h g e =
    ⊎_elim (λ k. k) (λ k. absurd (le_not_lt y x (level_le y x (eq_raised c pos y x g h ∙ eq-eqb _ _ (le_antisymm k (mul-le-mul_left c (raised_order x y h g e))))) (holds e)))
    (lt_or_ge (c * raised_units x) (c * raised_units y))
