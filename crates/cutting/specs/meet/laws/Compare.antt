-- `<=` on floats: it is transitive, and what is compared is no NaN, so it lies between the infinities.
use Rattle.std.specs.Prelude.{◌≡◌, refl, Bool, true, false, not, T, Float}
use Rattle.std.proofs.Common.{sym, ◌∙◌}
use Rattle.std.proofs.lemmas.Bool.{false≢true}
use Prim.{tt}
use Rattle.std.specs.Float.{nan, inf, fin}
use Rattle.std.specs.Float.Ieee.{lt, le, eq, neg, is_nan, of_bits}
use Rattle.base.specs.common.laws.And.{holds}
use Rattle.root.specs.laws.Order.{lt_past, not_lt, le_not_lt}
use Rattle.cutting.specs.meet.Crossing.{endless}

pub is_true : (b : Bool) → T b → b ≡ true
is_true true h = refl
is_true false h = absurd h

pub not_of : (b : Bool) → (T b → ⊥) → T (not b)
not_of true h = absurd (h tt)
not_of false h = tt

nothing_to : (x : Float) → le x nan ≡ false
unfolding le lt eq
nothing_to nan = refl
nothing_to (inf s) = refl
nothing_to (fin s m e) = refl

pub le_left : (x y : Float) → le x y ≡ true → T (not (is_nan x))
unfolding le lt eq is_nan
le_left nan y h = absurd (false≢true h)
le_left (inf s) y h = tt
le_left (fin s m e) y h = tt

pub le_right : (x y : Float) → le x y ≡ true → T (not (is_nan y))
unfolding is_nan
le_right x nan h = absurd (false≢true (sym (nothing_to x) ∙ h))
le_right x (inf s) h = tt
le_right x (fin s m e) h = tt

pub le_trans : (x y z : Float) → le x y ≡ true → le y z ≡ true → le x z ≡ true
le_trans x y z h g =
    is_true (le x z) (not_lt z x (le_right y z g) (le_left x y h) (not_of (lt z x) (λ k.
    le_not_lt y z (holds g) (lt_past z x y (le_left y z g) k (not_of (lt y x) (le_not_lt x y (holds h)))))))

-- a number is at most +inf, and at least -inf
pub lower_number : (x y : Float) → le x y ≡ true → le x endless ≡ true
unfolding le lt eq of_bits
lower_number nan y h = absurd (false≢true h)
lower_number (inf true) y h = refl
lower_number (inf false) y h = refl
lower_number (fin s m e) y h = refl

pub upper_number : (x y : Float) → le x y ≡ true → le (neg endless) y ≡ true
unfolding le lt eq neg of_bits
upper_number x nan h = absurd (false≢true (sym (nothing_to x) ∙ h))
upper_number x (inf true) h = refl
upper_number x (inf false) h = refl
upper_number x (fin s m e) h = refl
