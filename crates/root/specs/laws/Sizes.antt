-- Magnitudes by fractions, at most a / 2 ^ j or at least: each operation's result keeps such a bound where the fraction is itself a value of
-- binary64, since one rounding does (`Rounding`).
use Rattle.std.specs.Prelude.{◌≡◌, Bool, true, false, cond, ℕ, zero, suc, ◌+◌, ◌-◌, ◌*◌, ◌^◌, ◌≤◌, ◌<◌, T, eqb, ℤ, Float}
use Rattle.std.proofs.Common.{sym, ap, ◌∙◌, subst, le_trans, le_of_eq, lt_of_le_of_lt, lt_of_lt_of_le, mul-le-mul, mul-le-mul_right, mul_assoc, mul_comm, mul_left_comm, mul_right_comm, mul-one, one-mul, mul-pos, zero-lt-suc, add-mul, add-le-add, le_of_mul-le-mul_right, arith, lit<, pow-add, pow_pos, pow_mono, shl_lt}
use Prim.{tt}
use Rattle.std.proofs.Math.Nat.{mul-mul-mul_comm}
use Rattle.std.proofs.Math.Pow.{pow-lt}
use Rattle.std.specs.Float.Ieee.{nan, up, down, round, unlike, add, mul, div}
use Rattle.std.specs.Float.{inf, fin, binary64}
use Rattle.std.specs.Float.Ieee.Exact.{HasValue}
use Rattle.std.specs.Float.Ieee.Fits.{up_pos, down_pos}
use Rattle.std.specs.Float.Ieee.Positive.{first_pos}
use Rattle.std.specs.Float.Ieee.Scale.{grid, finite}
use Rattle.base.specs.common.Binary64.{◌⊞◌, ◌⊠◌, ◌⊘◌}
use Rattle.root.specs.laws.Rounding.{grid_most, grid_least, round_has, round_within}
use Rattle.root.specs.laws.Bounds.{round_bound, sum_by, div_is}
use Rattle.root.specs.Bounded.{Bounded}

-- finite, and of magnitude at most a / 2 ^ j
abbrev pub AtMost : ℕ → ℕ → Float → Type 0
AtMost a j nan = ⊥
AtMost a j (inf s) = ⊥
AtMost a j (fin s m e) = m * up e * 2 ^ j ≤ a * down e

-- finite, and of magnitude at least a / 2 ^ j
abbrev pub AtLeast : ℕ → ℕ → Float → Type 0
AtLeast a j nan = ⊥
AtLeast a j (inf s) = ⊥
AtLeast a j (fin s m e) = a * down e ≤ m * up e * 2 ^ j

-- a / 2 ^ j is a value of binary64: a number of 53 digits at most, times a power of two, of its smallest values
pub record HeldFraction (a j : ℕ) : Type 0 where
  pub digits : ℕ
  pub shift : ℕ
  pub few : digits < 2 ^ 53
  pub under : digits * 2 ^ shift < 2 ^ 2098
  pub same : digits * 2 ^ shift * 2 ^ j ≡ a * 2 ^ 1074

pub power_held : (i j : ℕ) → j ≤ 1074 + i → i ≤ 1023 + j → HeldFraction (2 ^ i) j
power_held i j h k =
    let z = 1074 + i - j in
    let one : 1 * 2 ^ z ≡ 2 ^ z = one-mul (2 ^ z) in
    record {
      digits = 1;
      shift = z;
      few = lit< tt;
      under = lt_of_le_of_lt (le_of_eq one) (pow-lt (low i j k));
      same = ap (λ (x : ℕ). x * 2 ^ j) one ∙ sym (pow-add 2 z j) ∙ ap (λ (x : ℕ). 2 ^ x) (back i j h) ∙ pow-add 2 i 1074;
    }
  where
    low : (i j : ℕ) → i ≤ 1023 + j → 1074 + i - j < 2098
    low i j k = omega arith

    back : (i j : ℕ) → j ≤ 1074 + i → 1074 + i - j + j ≡ i + 1074
    back i j h = omega arith

pub whole_held : (n k : ℕ) → n < 2 ^ 53 → k ≤ 971 → HeldFraction (n * 2 ^ k) 0
whole_held n k h g =
    record {
      digits = n;
      shift = k + 1074;
      few = h;
      under = lt_of_lt_of_le (shl_lt 53 (k + 1074) h) (pow_mono (low k g));
      same = mul-one (n * 2 ^ (k + 1074)) ∙ ap (λ (x : ℕ). n * x) (pow-add 2 k 1074) ∙ sym (mul_assoc n (2 ^ k) (2 ^ 1074));
    }
  where
    low : (k : ℕ) → k ≤ 971 → 53 + (k + 1074) ≤ 2098
    low k g = omega arith

-- the divisor of a finite quotient is not zero
divisor : (s : Bool) (m : ℕ) (e : ℤ) (t : Bool) (n : ℕ) (d : ℤ) → T (finite (fin s m e ⊘ fin t n d)) → 0 < n
unfolding div
divisor s m e t zero d f = absurd (none (eqb m 0) f)
  where
    none : (b : Bool) → T (finite (cond b nan (inf (unlike s t)))) → ⊥
    none true f = f
    none false f = f
divisor s m e t (suc n) d f = zero-lt-suc n

-- ---- from a rounded value to its bound, with the smallest value 1 / l
module _ (g Q j n l : ℕ) (L : 0 < l) (same : Q * 2 ^ j ≡ n * l) where
  moved : (d : ℕ) → Q * d * 2 ^ j ≡ n * d * l
  moved d = mul_right_comm Q d (2 ^ j) ∙ ap (λ (x : ℕ). x * d) same ∙ mul_right_comm n l d

  most_of_lem : (x : Float) (s : Bool) → g ≤ Q → HasValue x s g l → AtMost n j x
  most_of_lem nan s h v = v
  most_of_lem (inf t) s h v = v
  most_of_lem (fin t m e) s h v =
      le_of_mul-le-mul_right
      (le_trans (le_of_eq (mul_right_comm (m * up e) (2 ^ j) l ∙ ap (λ (x : ℕ). x * 2 ^ j) v.1))
      (le_trans (mul-le-mul_right (2 ^ j) (mul-le-mul_right (down e) h)) (le_of_eq (moved (down e))))) L

  least_of_lem : (x : Float) (s : Bool) → Q ≤ g → HasValue x s g l → AtLeast n j x
  least_of_lem nan s h v = v
  least_of_lem (inf t) s h v = v
  least_of_lem (fin t m e) s h v =
      le_of_mul-le-mul_right
      (le_trans (le_of_eq (sym (moved (down e)))) (le_trans (mul-le-mul_right (2 ^ j) (mul-le-mul_right (down e) h))
      (le_of_eq (ap (λ (x : ℕ). x * 2 ^ j) (sym v.1) ∙ mul_right_comm (m * up e) l (2 ^ j))))) L

module _ (s : Bool) (a c n j : ℕ) (C : 0 < c) (v : HeldFraction n j) where
  abbrev Q : ℕ
  Q = v.digits * 2 ^ v.shift

  -- the fraction and the bound, both in smallest values and over c
  left : a * 2 ^ 1074 * 2 ^ j ≡ a * 2 ^ j * 2 ^ 1074
  left = mul_right_comm a (2 ^ 1074) (2 ^ j)

  right : n * c * 2 ^ 1074 ≡ Q * c * 2 ^ j
  right = mul_right_comm n c (2 ^ 1074) ∙ ap (λ (x : ℕ). x * c) (sym v.same) ∙ mul_right_comm Q (2 ^ j) c

  pub round_most : a * 2 ^ j ≤ n * c → AtMost n j (round binary64 s a c)
  round_most h =
      let w : a * 2 ^ 1074 ≤ Q * c = le_of_mul-le-mul_right (le_trans (le_of_eq left) (le_trans (mul-le-mul_right (2 ^ 1074) h) (le_of_eq right))) (pow_pos j) in
      let g : grid binary64 a c ≤ Q = grid_most 53 (a * 2 ^ 1074) c v.digits v.shift C v.few w in
      most_of_lem (grid binary64 a c) Q j n (2 ^ 1074) (pow_pos 1074) v.same (round binary64 s a c) s g (round_has binary64 s a c (lt_of_le_of_lt g v.under))

  pub round_least : T (finite (round binary64 s a c)) → n * c ≤ a * 2 ^ j → AtLeast n j (round binary64 s a c)
  round_least t h =
      let w : Q * c ≤ a * 2 ^ 1074 = le_of_mul-le-mul_right (le_trans (le_of_eq (sym right)) (le_trans (mul-le-mul_right (2 ^ 1074) h) (le_of_eq (sym left)))) (pow_pos j) in
      let g : Q ≤ grid binary64 a c = grid_least 53 (a * 2 ^ 1074) c v.digits v.shift C v.few (lit< tt) w in
      least_of_lem (grid binary64 a c) Q j n (2 ^ 1074) (pow_pos 1074) v.same (round binary64 s a c) s g (round_has binary64 s a c (round_within binary64 s a c t))

-- ---- the operations
pub add_most : (x y : Float) (a b j : ℕ) → HeldFraction (a + b) j → AtMost a j x → AtMost b j y → AtMost (a + b) j (x ⊞ y)
unfolding add
add_most nan y a b j v h g = absurd h
add_most (inf s) y a b j v h g = absurd h
add_most (fin s m e) nan a b j v h g = absurd g
add_most (fin s m e) (inf t) a b j v h g = absurd g
add_most (fin s m e) (fin t n d) a b j v h g =
    sum_by binary64 s (m * up e * down d) t (n * up d * down e) (down e * down d) (AtMost (a + b) j)
    (λ u r i. round_most u r (down e * down d) (a + b) j (mul-pos (down_pos e) (down_pos d)) v (le_trans (mul-le-mul_right (2 ^ j) i) both))
  where
    spread : (p q r : ℕ) → p * q * r ≡ p * r * q
    spread p q r = mul_right_comm p q r

    both : (m * up e * down d + n * up d * down e) * 2 ^ j ≤ (a + b) * (down e * down d)
    both =
        let u : m * up e * down d * 2 ^ j ≤ a * (down e * down d) = le_trans (le_of_eq (spread (m * up e) (down d) (2 ^ j)))
        (le_trans (mul-le-mul_right (down d) h) (le_of_eq (mul_assoc a (down e) (down d)))) in
        let w : n * up d * down e * 2 ^ j ≤ b * (down e * down d) =
        le_trans (le_of_eq (spread (n * up d) (down e) (2 ^ j)))
        (le_trans (mul-le-mul_right (down e) g) (le_of_eq (mul_assoc b (down d) (down e) ∙ ap (λ (x : ℕ). b * x) (mul_comm (down d) (down e))))) in
        le_trans (le_of_eq (add-mul (m * up e * down d) (n * up d * down e) (2 ^ j))) (le_trans (add-le-add u w) (le_of_eq (sym (add-mul a b (down e * down d)))))

-- with powers of two: products and quotients
module _ (i j k l : ℕ) where
  joined : (p q : ℕ) → 2 ^ i * p * (2 ^ k * q) ≡ 2 ^ (i + k) * (p * q)
  joined p q = mul-mul-mul_comm (2 ^ i) p (2 ^ k) q ∙ ap (λ (x : ℕ). x * (p * q)) (sym (pow-add 2 i k))

  apart : (p q : ℕ) → p * q * 2 ^ (j + l) ≡ p * 2 ^ j * (q * 2 ^ l)
  apart p q = ap (λ (x : ℕ). p * q * x) (pow-add 2 j l) ∙ mul-mul-mul_comm p q (2 ^ j) (2 ^ l)

  module _ (o : j + l ≤ 1074 + (i + k)) (u : i + k ≤ 1023 + (j + l)) where
    pub mul_most : (x y : Float) → AtMost (2 ^ i) j x → AtMost (2 ^ k) l y → AtMost (2 ^ (i + k)) (j + l) (x ⊠ y)
    unfolding mul
    mul_most nan y a b = absurd a
    mul_most (inf s) y a b = absurd a
    mul_most (fin s m e) nan a b = absurd b
    mul_most (fin s m e) (inf t) a b = absurd b
    mul_most (fin s m e) (fin t n d) a b =
        round_most (unlike s t) (m * up e * (n * up d)) (down e * down d) (2 ^ (i + k)) (j + l) (mul-pos (down_pos e) (down_pos d)) (power_held (i + k) (j + l) o u)
        (le_trans (le_of_eq (apart (m * up e) (n * up d))) (le_trans (mul-le-mul a b) (le_of_eq (joined (down e) (down d)))))

    pub mul_least : (x y : Float) → T (finite (x ⊠ y)) → AtLeast (2 ^ i) j x → AtLeast (2 ^ k) l y → AtLeast (2 ^ (i + k)) (j + l) (x ⊠ y)
    unfolding mul
    mul_least nan y f a b = absurd a
    mul_least (inf s) y f a b = absurd a
    mul_least (fin s m e) nan f a b = absurd b
    mul_least (fin s m e) (inf t) f a b = absurd b
    mul_least (fin s m e) (fin t n d) f a b =
        round_least (unlike s t) (m * up e * (n * up d)) (down e * down d) (2 ^ (i + k)) (j + l) (mul-pos (down_pos e) (down_pos d)) (power_held (i + k) (j + l) o u) f
        (le_trans (le_of_eq (sym (joined (down e) (down d)))) (le_trans (mul-le-mul a b) (le_of_eq (sym (apart (m * up e) (n * up d))))))

  -- x at most (at least) 2 ^ i / 2 ^ j, and y at least (at most) 2 ^ k / 2 ^ l
  over : (p q : ℕ) → 2 ^ i * p * (q * 2 ^ l) ≡ 2 ^ (i + l) * (q * p)
  over p q = simp (pow-add, mul_assoc, mul_comm, mul_left_comm)

  under : (p q : ℕ) → p * 2 ^ j * (2 ^ k * q) ≡ p * q * 2 ^ (j + k)
  under p q = simp (pow-add, mul_assoc, mul_comm, mul_left_comm)

  some : (n d : ℕ) → 0 < d → 2 ^ k * d ≤ n * 2 ^ l → 0 < n
  some n d D h = first_pos n (2 ^ l) (lt_of_lt_of_le (mul-pos (pow_pos k) D) h)

  module _ (o : j + k ≤ 1074 + (i + l)) (u : i + l ≤ 1023 + (j + k)) where
    pub div_most : (x y : Float) → AtMost (2 ^ i) j x → AtLeast (2 ^ k) l y → AtMost (2 ^ (i + l)) (j + k) (x ⊘ y)
    div_most nan y a b = absurd a
    div_most (inf s) y a b = absurd a
    div_most (fin s m e) nan a b = absurd b
    div_most (fin s m e) (inf t) a b = absurd b
    div_most (fin s m e) (fin t n d) a b =
        let P : 0 < n * up d = some (n * up d) (down d) (down_pos d) b in
        subst (AtMost (2 ^ (i + l)) (j + k)) (sym (div_is binary64 s m e t n d (first_pos n (up d) P)))
        (round_most (unlike s t) (m * up e * down d) (n * up d * down e) (2 ^ (i + l)) (j + k) (mul-pos P (down_pos e)) (power_held (i + l) (j + k) o u)
        (le_trans (le_of_eq (sym (under (m * up e) (down d)))) (le_trans (mul-le-mul a b) (le_of_eq (over (down e) (n * up d))))))

    pub div_least : (x y : Float) → T (finite (x ⊘ y)) → AtLeast (2 ^ i) j x → AtMost (2 ^ k) l y → AtLeast (2 ^ (i + l)) (j + k) (x ⊘ y)
    div_least nan y f a b = absurd a
    div_least (inf s) y f a b = absurd a
    div_least (fin s m e) nan f a b = absurd b
    div_least (fin s m e) (inf t) f a b = absurd b
    div_least (fin s m e) (fin t n d) f a b =
        let N : 0 < n = divisor s m e t n d f in
        let is = div_is binary64 s m e t n d N in
        subst (AtLeast (2 ^ (i + l)) (j + k)) (sym is)
        (round_least (unlike s t) (m * up e * down d) (n * up d * down e) (2 ^ (i + l)) (j + k) (mul-pos (mul-pos N (up_pos d)) (down_pos e)) (power_held (i + l) (j + k) o u)
        (subst (λ (z : Float). T (finite z)) is f)
        (le_trans (le_of_eq (sym (over (down e) (n * up d)))) (le_trans (mul-le-mul a b) (le_of_eq (under (m * up e) (down d))))))

-- ---- to and from `Bounded`, and coarser bounds
pub most_of_bounded : (x : Float) (k : ℕ) → Bounded k x → AtMost (2 ^ k) 0 x
most_of_bounded nan k b = b
most_of_bounded (inf s) k b = b
most_of_bounded (fin s m e) k b = le_trans (le_of_eq (mul-one (m * up e))) b

-- 2 ^ i / 2 ^ j is at most 2 ^ k
pub bounded_of_most : (x : Float) (i j k : ℕ) → i ≤ k + j → AtMost (2 ^ i) j x → Bounded k x
bounded_of_most nan i j k h b = b
bounded_of_most (inf s) i j k h b = b
bounded_of_most (fin s m e) i j k h b =
    le_of_mul-le-mul_right
    (le_trans b (le_trans (mul-le-mul_right (down e) (pow_mono h)) (le_of_eq (ap (λ (x : ℕ). x * down e) (pow-add 2 k j) ∙ mul_right_comm (2 ^ k) (2 ^ j) (down e))))) (pow_pos j)

-- a quotient by 2 ^ -j or more
pub quotient_bound : (x y : Float) (k j : ℕ) → k + j ≤ 1023 → Bounded k x → AtLeast 1 j y → Bounded (k + j) (x ⊘ y)
quotient_bound x y k j h a b =
    bounded_of_most (x ⊘ y) (k + j) 0 (k + j) (omega arith) (div_most k 0 0 j (omega arith) (omega arith) x y (most_of_bounded x k a) b)

-- 2 ^ -j or more by 2 ^ k at most
pub quotient_least : (x y : Float) (j k : ℕ) → j + k ≤ 1074 → T (finite (x ⊘ y)) → AtLeast 1 j x → Bounded k y → AtLeast 1 (j + k) (x ⊘ y)
quotient_least x y j k h f a b = div_least 0 j k 0 (omega arith) (omega arith) x y f a (most_of_bounded y k b)

-- a sum of n values up to 2 ^ k each, over n
pub mean_bound : (x y : Float) (n k : ℕ) → k ≤ 1023 → 0 < n → AtMost (n * 2 ^ k) 0 x → HasValue y false n 1 → Bounded k (x ⊘ y)
mean_bound nan y n k h p a v = absurd a
mean_bound (inf s) y n k h p a v = absurd a
mean_bound (fin s m e) nan n k h p a v = absurd v
mean_bound (fin s m e) (inf t) n k h p a v = absurd v
mean_bound (fin s m e) (fin t r d) n k h p a v =
    let is : n * down d ≡ r * up d = sym v.1 ∙ mul-one (r * up d) in
    let R : 0 < r * up d = lt_of_lt_of_le (mul-pos p (down_pos d)) (le_of_eq is) in
    subst (Bounded k) (sym (div_is binary64 s m e t r d (first_pos r (up d) R)))
    (round_bound binary64 (unlike s t) (m * up e * down d) (r * up d * down e) k (mul-pos R (down_pos e)) h
    (le_trans (mul-le-mul_right (down d) (le_trans (le_of_eq (sym (mul-one (m * up e)))) a)) (le_of_eq (moved_over n (2 ^ k) (down e) (down d) ∙ ap (λ (x : ℕ). 2 ^ k * (x * down e)) is))))
  where
    moved_over : (n w e d : ℕ) → n * w * e * d ≡ w * (n * d * e)
    moved_over n w e d = simp (mul_assoc, mul_comm, mul_left_comm)
