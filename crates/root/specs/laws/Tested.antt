-- What a test tells of a magnitude: against 2 ^ k, against the tolerance, against 1, and between two bounded values.
use Rattle.std.specs.Prelude.{◌≡◌, ◌⊎◌, Bool, true, false, ◌&&◌, ◌||◌, ℕ, ◌*◌, ◌^◌, ◌≤◌, ◌<◌, T, ltb, eqb, ℤ, pos, Float}
use Rattle.std.proofs.Common.{sym, ap, inl, inr, ⊎_elim, le_trans, le_of_eq, le_of_lt, mul-le-mul_right, mul_right_comm, mul-one, one-mul, le_of_mul-le-mul_right, ltb→lt, nltb→le, eqb→eq}
use Prim.{tt}
use Rattle.std.specs.Float.{nan, inf, fin}
use Rattle.std.specs.Float.Ieee.{up, down, lt, le, of_bits}
use Rattle.std.specs.Float.Ieee.Fits.{down_pos}
use Rattle.base.specs.common.laws.And.{holds, fails}
use Rattle.base.specs.common.Binary64.{zero}
use Rattle.base.specs.common.laws.Decide.{lt_or_ge}
use Rattle.base.specs.numbers.Numbers.{tolerance}
use Rattle.root.specs.laws.Order.{first_of}
use Rattle.root.specs.Root.{magnitude}
use Rattle.root.specs.laws.Bounds.{OneOrMore}
use Rattle.root.specs.Bounded.{Bounded}
use Rattle.root.specs.laws.Sizes.{AtLeast}

-- ---- the order of two magnitudes, from the order of values
or_le : (x y : Bool) {a b : ℕ} → (T x → a < b) → (T y → a ≡ b) → T (x || y) → a ≤ b
or_le true y h g t = le_of_lt (h tt)
or_le false true h g t = le_of_eq (g tt)
or_le false false h g t = absurd t

under_plus : (m : ℕ) (e : ℤ) (t : Bool) (n : ℕ) (d : ℤ) → T (le (fin false m e) (fin t n d)) → m * up e * down d ≤ n * up d * down e
unfolding le
under_plus m e false n d h =
    let a = m * up e * down d in
    let b = n * up d * down e in
    or_le (ltb a b) (eqb a b && true) (ltb→lt a b) (λ t. eqb→eq a b (first_of (eqb a b) true t)) h
under_plus m e true n d h =
    let a = m * up e * down d in
    let b = n * up d * down e in
    le_of_eq (eqb→eq a b (first_of (eqb a b) (eqb a 0) h))

over_minus : (m : ℕ) (e : ℤ) (t : Bool) (n : ℕ) (d : ℤ) → T (le (fin t n d) (fin true m e)) → m * up e * down d ≤ n * up d * down e
unfolding le
over_minus m e true n d h =
    let a = m * up e * down d in
    let b = n * up d * down e in
    or_le (ltb a b) (eqb b a && true) (ltb→lt a b) (λ t. sym (eqb→eq b a (first_of (eqb b a) true t))) h
over_minus m e false n d h =
    let a = m * up e * down d in
    let b = n * up d * down e in
    le_of_eq (sym (eqb→eq b a (first_of (eqb b a) (eqb b 0) h)))

-- ---- against 2 ^ k
abbrev pub power : ℕ → Float
power k = fin false 1 (pos k)

passed : (m k : ℕ) (e : ℤ) → T (le (fin false m e) (power k)) → m * up e ≤ 2 ^ k * down e
passed m k e t =
    le_trans (le_of_eq (sym (mul-one (m * up e)))) (le_trans (under_plus m e false 1 (pos k) t) (le_of_eq (ap (λ (x : ℕ). x * down e) (one-mul (2 ^ k)))))

pub le_bound : (x : Float) (k : ℕ) → T (le (magnitude x) (power k)) → Bounded k x
unfolding le
le_bound nan k t = absurd t
le_bound (inf s) k t = absurd t
le_bound (fin s m e) k t = passed m k e t

-- above 0, and at most 2 ^ k
pub plus_bound : (x : Float) (k : ℕ) → T (lt zero x) → T (le x (power k)) → Bounded k x
unfolding lt le of_bits
plus_bound nan k p t = absurd p
plus_bound (inf true) k p t = absurd p
plus_bound (inf false) k p t = absurd t
plus_bound (fin true m e) k p t = absurd p
plus_bound (fin false m e) k p t = passed m k e t

-- ---- against the tolerance: above it, or not below it
pub above_eps : (x : Float) (k : ℕ) → Bounded k x → lt tolerance (magnitude x) ≡ true → AtLeast 1 50 x
unfolding lt of_bits
above_eps nan k b h = b
above_eps (inf s) k b h = b
above_eps (fin s m e) k b h = le_of_lt (ltb→lt (1 * down e) (m * up e * 2 ^ 50) (holds h))

pub from_eps : (x : Float) (k : ℕ) → Bounded k x → lt (magnitude x) tolerance ≡ false → AtLeast 1 50 x
unfolding lt of_bits
from_eps nan k b h = b
from_eps (inf s) k b h = b
from_eps (fin s m e) k b h = nltb→le (m * up e * 2 ^ 50) (1 * down e) (fails h)

-- ---- against 1
pub one_or_more : (x : Float) (k : ℕ) → Bounded k x → Bounded 0 x ⊎ OneOrMore x
one_or_more nan k b = absurd b
one_or_more (inf s) k b = absurd b
one_or_more (fin s m e) k b = ⊎_elim (λ h. inl (le_trans (le_of_lt h) (le_of_eq (sym (one-mul (down e)))))) (λ h. inr h) (lt_or_ge (m * up e) (down e))

-- ---- between two bounded values
scaled : (k m : ℕ) (e : ℤ) (n : ℕ) (d : ℤ) → m * up e * down d ≤ n * up d * down e → n * up d ≤ 2 ^ k * down d → m * up e ≤ 2 ^ k * down e
scaled k m e n d h g =
    le_of_mul-le-mul_right (le_trans h (le_trans (mul-le-mul_right (down e) g) (le_of_eq (mul_right_comm (2 ^ k) (down d) (down e))))) (down_pos d)

pub between_bounded : (a x z : Float) (k : ℕ) → Bounded k a → Bounded k z → T (le a x) → T (le x z) → Bounded k x
unfolding le
between_bounded nan x z k p q h g = absurd p
between_bounded (inf s) x z k p q h g = absurd p
between_bounded (fin s n d) nan z k p q h g = absurd h
between_bounded (fin s n d) (inf true) z k p q h g = absurd h
between_bounded (fin s n d) (inf false) nan k p q h g = absurd q
between_bounded (fin s n d) (inf false) (inf t) k p q h g = absurd q
between_bounded (fin s n d) (inf false) (fin t r c) k p q h g = absurd g
between_bounded (fin s n d) (fin true m e) z k p q h g = scaled k m e n d (over_minus m e s n d h) p
between_bounded (fin s n d) (fin false m e) nan k p q h g = absurd q
between_bounded (fin s n d) (fin false m e) (inf t) k p q h g = absurd q
between_bounded (fin s n d) (fin false m e) (fin t r c) k p q h g = scaled k m e r c (under_plus m e t r c g) q
