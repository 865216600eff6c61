-- Theorem: no form has more than 6,946 bytes. So 6,947 bytes of an input decide what is answered for it, however long it is.
use Rattle.std.proofs.Common.{ap, subst, ⊎_elim, arith, take_all, length-take-le}
use Rattle.std.specs.Prelude.{List, ℕ, ◌≤◌, length, take}
use Rattle.base.specs.common.laws.Decide.{lt_or_ge}
use Rattle.plane.specs.declared.given.Given.{Given}
use Rattle.mesh.specs.Accepted.{Mesh}
use Rattle.form.specs.Limits.{enough_bytes}
use Rattle.form.specs.Length.{form_short}
use Rattle.form.specs.laws.Longer.{place_longer, number_longer}
use Rattle.printing.specs.OfForm.{OfForm, sound, broken}

module _ {A : Type 0} {Told : Mesh → Given → A → Type 0} {refused : ℕ → A} where
  pub enough : (s : List ℕ) {a : A} → OfForm Told refused (take enough_bytes s) a → OfForm Told refused s a
  enough s {a} p =
      ⊎_elim
      (λ l. subst (λ (z : List ℕ). OfForm Told refused z a) (take_all enough_bytes s (omega arith)) p)
      (λ l. long l p)
      (lt_or_ge (length s) enough_bytes)
    where
      long : enough_bytes ≤ length s → {a : A} → OfForm Told refused (take enough_bytes s) a → OfForm Told refused s a
      long l (sound m g f e b x) = absurd (omega (arith, form_short m f, ap length e, length-take-le enough_bytes s l))
      long l (broken {k} p n) = broken (place_longer s k l p) (number_longer s k l p n)
