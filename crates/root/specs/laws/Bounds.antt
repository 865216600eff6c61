-- How large a result can be: sums, differences and products of values of bounded magnitude are finite, and bounded in turn.
use Rattle.std.specs.Prelude.{◌≡◌, ℕ, zero, suc, ◌+◌, ◌-◌, ◌*◌, ◌^◌, ◌≤◌, ◌<◌, Bool, true, false, not, ◌&&◌, cond, T, ltb, eqb, ℤ, Float}
use Rattle.std.proofs.Common.{sym, ap, ◌∙◌, subst, le_trans, le_of_eq, lt_of_le_of_lt, lt_of_lt_of_le, mul-le-mul, mul-le-mul_right, mul_assoc, mul_comm, mul_right_comm, one-mul, mul-pos, le_of_mul-le-mul_right, pow-suc, lt_irrefl, arith, lit≤, pow-add, pow_pos, pow_mono}
use Rattle.std.proofs.Math.Nat.{mul-mul-mul_comm}
use Rattle.std.specs.Bool.{beq}
use Rattle.std.proofs.Math.Dec.{eqb-suc-zero}
use Rattle.std.specs.Float.Ieee.Positive.{first_pos}
use Rattle.base.specs.common.Binary64 as R
use Rattle.std.proofs.Math.Pow.{pow-lt}
use Rattle.std.specs.Float.{nan, inf, fin, Format}
use Rattle.std.specs.Float.Ieee.{prec, emax, low, up, down, round, neg, sum, add, sub, mul, div, unlike, of_bits, is_nan}
use Rattle.std.specs.Float.Ieee.Fits.{two, two-le_pos, down_pos}
use Rattle.std.specs.Float.Ieee.Exact.{HasValue}
use Rattle.std.specs.Float.Ieee.Scale.{grid, finite}
use Rattle.root.specs.Bounded.{Bounded}
use Rattle.root.specs.laws.Rounding.{grid_most, round_has}

-- ---- rounding
bounded_of_value : (x : Float) (s : Bool) (g l k : ℕ) → 0 < l → g ≤ 2 ^ k * l → HasValue x s g l → Bounded k x
bounded_of_value nan s g l k L h v = v
bounded_of_value (inf t) s g l k L h v = v
bounded_of_value (fin t m e) s g l k L h v =
    le_of_mul-le-mul_right (le_trans (le_of_eq v.1) (le_trans (mul-le-mul_right (down e) h) (le_of_eq (mul_right_comm (2 ^ k) l (down e))))) L

pub round_bound : (f : Format) (s : Bool) (a c k : ℕ) → 0 < c → k ≤ emax f → a ≤ 2 ^ k * c → Bounded k (round f s a c)
round_bound f s a c k C K h =
    let l = low f in
    let w : 2 ^ (l + k) ≡ 2 ^ k * 2 ^ l = pow-add 2 l k ∙ mul_comm (2 ^ l) (2 ^ k) in
    let n : a * 2 ^ l ≤ 2 ^ (l + k) * c = le_trans (mul-le-mul_right (2 ^ l) h) (le_of_eq (mul_right_comm (2 ^ k) c (2 ^ l) ∙ ap (λ (x : ℕ). x * c) (sym w))) in
    let one = one-mul (2 ^ (l + k)) in
    let g : grid f a c ≤ 2 ^ (l + k) =
    le_trans (grid_most (prec f) (a * 2 ^ l) c 1 (l + k) C (pow-lt (two-le_pos (prec f) (two f))) (le_trans n (le_of_eq (ap (λ (x : ℕ). x * c) (sym one))))) (le_of_eq one) in
    bounded_of_value (round f s a c) s (grid f a c) (2 ^ l) k (pow_pos l) (le_trans g (le_of_eq w)) (round_has f s a c (lt_of_le_of_lt g (pow-lt (room l k (emax f) K))))
  where
    room : (l k m : ℕ) → k ≤ m → l + k < l + suc m
    room l k m h = omega arith

-- ---- the operations
pub weaken : (x : Float) (i j : ℕ) → i ≤ j → Bounded i x → Bounded j x
weaken nan i j h b = b
weaken (inf s) i j h b = b
weaken (fin s m e) i j h b = le_trans b (mul-le-mul_right (down e) (pow_mono h))

pub neg_bound : (x : Float) (k : ℕ) → Bounded k x → Bounded k (neg x)
unfolding neg
neg_bound nan k b = b
neg_bound (inf s) k b = b
neg_bound (fin s m e) k b = b

pub mul_bound : (f : Format) (x y : Float) (i j : ℕ) → i + j ≤ emax f → Bounded i x → Bounded j y → Bounded (i + j) (mul f x y)
unfolding mul
mul_bound f nan y i j h a b = absurd a
mul_bound f (inf s) y i j h a b = absurd a
mul_bound f (fin s m e) nan i j h a b = absurd b
mul_bound f (fin s m e) (inf t) i j h a b = absurd b
mul_bound f (fin s m e) (fin t n d) i j h a b =
    round_bound f _ (m * up e * (n * up d)) (down e * down d) (i + j) (mul-pos (down_pos e) (down_pos d)) h
    (le_trans (mul-le-mul a b) (le_of_eq (mul-mul-mul_comm (2 ^ i) (down e) (2 ^ j) (down d) ∙ ap (λ (x : ℕ). x * (down e * down d)) (sym (pow-add 2 i j)))))

-- a sum is one rounding of a number up to the sum of the magnitudes
pub sum_by : (f : Format) (s : Bool) (a : ℕ) (t : Bool) (b c : ℕ) (P : Float → Type 0) → ((u : Bool) (n : ℕ) → n ≤ a + b → P (round f u n c)) → P (sum f s a t b c)
unfolding sum
sum_by f s a t b c P h =
    either (beq s t) (round f s (a + b) c) (cond (ltb a b) (round f t (b - a) c) (round f (s && ltb b a) (a - b) c)) (h s (a + b) (omega arith))
    (either (ltb a b) (round f t (b - a) c) (round f (s && ltb b a) (a - b) c) (h t (b - a) (omega arith)) (h (s && ltb b a) (a - b) (omega arith)))
  where
    either : (z : Bool) (x y : Float) → P x → P y → P (cond z x y)
    either true x y h g = h
    either false x y h g = g

twice : (a b c : ℕ) → a ≤ c → b ≤ c → a + b ≤ c * 2
twice a b c h g = omega arith

pub add_bound : (f : Format) (x y : Float) (k : ℕ) → suc k ≤ emax f → Bounded k x → Bounded k y → Bounded (suc k) (add f x y)
unfolding add
add_bound f nan y k h a b = absurd a
add_bound f (inf s) y k h a b = absurd a
add_bound f (fin s m e) nan k h a b = absurd b
add_bound f (fin s m e) (inf t) k h a b = absurd b
add_bound f (fin s m e) (fin t n d) k h a b =
    let u : m * up e * down d ≤ 2 ^ k * (down e * down d) = le_trans (mul-le-mul_right (down d) a) (le_of_eq (mul_assoc (2 ^ k) (down e) (down d))) in
    let v : n * up d * down e ≤ 2 ^ k * (down e * down d) = le_trans (mul-le-mul_right (down e) b)
    (le_of_eq (mul_assoc (2 ^ k) (down d) (down e) ∙ ap (λ (x : ℕ). 2 ^ k * x) (mul_comm (down d) (down e)))) in
    let w : m * up e * down d + n * up d * down e ≤ 2 ^ suc k * (down e * down d) =
    le_trans (twice _ _ _ u v) (le_of_eq (mul_right_comm (2 ^ k) (down e * down d) 2 ∙ ap (λ (x : ℕ). x * (down e * down d)) (sym (pow-suc 2 k)))) in
    sum_by f s (m * up e * down d) t (n * up d * down e) (down e * down d) (Bounded (suc k))
    (λ q r i. round_bound f q r (down e * down d) (suc k) (mul-pos (down_pos e) (down_pos d)) h (le_trans i w))

pub sub_bound : (f : Format) (x y : Float) (k : ℕ) → suc k ≤ emax f → Bounded k x → Bounded k y → Bounded (suc k) (sub f x y)
unfolding sub
sub_bound f x y k h a b = add_bound f x (neg y) k h a (neg_bound y k b)

pub bounded_finite : (x : Float) (k : ℕ) → Bounded k x → T (finite x)
bounded_finite nan k b = b
bounded_finite (inf s) k b = b
bounded_finite (fin s m e) k b = tt

pub finite_no_nan : (x : Float) → T (finite x) → T (not (is_nan x))
unfolding is_nan
finite_no_nan nan b = b
finite_no_nan (inf s) b = tt
finite_no_nan (fin s m e) b = tt

-- ---- a quotient by a number of magnitude 1 at least
abbrev pub OneOrMore : Float → Type 0
OneOrMore nan = ⊥
OneOrMore (inf s) = ⊥
OneOrMore (fin s m e) = down e ≤ m * up e

pub div_is : (f : Format) (s : Bool) (m : ℕ) (e : ℤ) (t : Bool) (n : ℕ) (d : ℤ) → 0 < n → div f (fin s m e) (fin t n d) ≡ round f (unlike s t) (m * up e * down d) (n * up d * down e)
unfolding div
div_is f s m e t zero d h = absurd (lt_irrefl 0 h)
div_is f s m e t (suc n) d h = ap (λ (z : Bool). cond z (cond (eqb m 0) nan (inf (unlike s t))) (round f (unlike s t) (m * up e * down d) (suc n * up d * down e))) (eqb-suc-zero n)

pub div_bound : (f : Format) (x y : Float) (k : ℕ) → k ≤ emax f → Bounded k x → OneOrMore y → Bounded k (div f x y)
div_bound f nan y k h a b = absurd a
div_bound f (inf s) y k h a b = absurd a
div_bound f (fin s m e) nan k h a b = absurd b
div_bound f (fin s m e) (inf t) k h a b = absurd b
div_bound f (fin s m e) (fin t n d) k h a b =
    let P : 0 < n * up d = lt_of_lt_of_le (down_pos d) b in
    subst (Bounded k) (sym (div_is f s m e t n d (first_pos n (up d) P)))
    (round_bound f (unlike s t) (m * up e * down d) (n * up d * down e) k (mul-pos P (down_pos e)) h
    (le_trans (mul-le-mul a b) (le_of_eq (mul_assoc (2 ^ k) (down e) (n * up d) ∙ ap (λ (x : ℕ). 2 ^ k * x) (mul_comm (down e) (n * up d))))))

pub two_more : OneOrMore R.two
unfolding of_bits
two_more = lit≤ tt
