-- Theorem: 6,947 bytes of an input decide what is printed for it, however long it is: no form has more than 6,946.
use Rattle.std.proofs.Common.{ap, subst, ⊎_elim, arith, take_all, length-take-le}
use Rattle.std.specs.Prelude.{Bool, List, ℕ, ◌≤◌, length, take}
use Rattle.base.specs.common.laws.Decide.{lt_or_ge}
use Rattle.form.specs.Limits.{enough_bytes}
use Rattle.form.specs.Form.{Outline}
use Rattle.form.specs.Length.{form_short}
use Rattle.form.specs.laws.Longer.{place_longer, number_longer}
use Rattle.mend.specs.Printed.{MendPrints, sound, broken}

module _ (form : Bool) (o : Outline) where
  pub enough : (s text : List ℕ) → MendPrints form o (take enough_bytes s) text → MendPrints form o s text
  enough s text p =
      ⊎_elim
      (λ l. subst (λ (z : List ℕ). MendPrints form o z text) (take_all enough_bytes s (omega arith)) p)
      (λ l. long l p)
      (lt_or_ge (length s) enough_bytes)
    where
      long : enough_bytes ≤ length s → {text : List ℕ} → MendPrints form o (take enough_bytes s) text → MendPrints form o s text
      long l (sound m f a e q) = absurd (omega (arith, form_short m f, ap length e, length-take-le enough_bytes s l))
      long l (broken {k} p n) = broken (place_longer s k l p) (number_longer s k l p n)
