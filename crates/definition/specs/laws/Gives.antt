-- What holds of an outcome's value, where there is one.
use Rattle.std.specs.Prelude.{◌≡◌, refl, Bool, true, false, ℕ}
use Rattle.base.specs.common.Pick.{pick}
use Rattle.definition.specs.Fault.{Outcome, ok, refused, and_then, at_edge}

abbrev pub Gives : {F A : Type 0} → (A → Type 0) → Outcome F A → Type 0
Gives P (ok a) = P a
Gives P (refused f) = Unit {0}

pub gives_ok : {F A : Type 0} (P : A → Type 0) {o : Outcome F A} {a : A} → Gives P o → o ≡ ok a → P a
gives_ok P g e = rw e at g

pub gives_both : {F A : Type 0} (P Q : A → Type 0) (o : Outcome F A) → Gives P o → Gives Q o → Gives (λ (a : A). P a × Q a) o
gives_both P Q (ok a) p q = (p, q)
gives_both P Q (refused f) p q = tt

pub gives_given : {F A : Type 0} (G : Type 0) (P : A → Type 0) (o : Outcome F A) → (G → Gives P o) → Gives (λ (a : A). G → P a) o
gives_given G P (ok a) h = h
gives_given G P (refused f) h = tt

pub gives_map : {F A : Type 0} (P Q : A → Type 0) (o : Outcome F A) → Gives P o → ((a : A) → P a → Q a) → Gives Q o
gives_map P Q (ok a) h f = f a h
gives_map P Q (refused e) h f = tt

pub gives_then : {F A B : Type 0} (P : A → Type 0) (Q : B → Type 0) (o : Outcome F A) (k : A → Outcome F B) → Gives P o → ((a : A) → P a → Gives Q (k a)) → Gives Q (and_then o k)
unfolding and_then
gives_then P Q (ok a) k h f = f a h
gives_then P Q (refused e) k h f = tt

pub gives_next : {F A B : Type 0} (Q : B → Type 0) (o : Outcome F A) (k : A → Outcome F B) → ((a : A) → Gives Q (k a)) → Gives Q (and_then o k)
unfolding and_then
gives_next Q (ok a) k f = f a
gives_next Q (refused e) k f = tt

pub gives_at : {A : Type 0} (P : A → Type 0) (site p q : ℕ) (o : Outcome ℕ A) → Gives P o → Gives P (at_edge site p q o)
unfolding at_edge
gives_at P site p q (ok a) h = h
gives_at P site p q (refused n) h = tt

-- a choice has what both branches have
pub picked : {A : Type 0} (Q : A → Type 0) (t : Bool) (f g : Unit {0} → A) → (t ≡ true → Q (f tt)) → (t ≡ false → Q (g tt)) → Q (pick t f g)
picked Q true f g h k = h refl
picked Q false f g h k = k refl
