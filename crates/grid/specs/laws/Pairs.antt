-- A whole number with a sign as a pair of numbers, what is added and what is taken off: sums, negation, products and the sign are those of the whole number.
use Rattle.std.specs.Prelude.{◌≡◌, refl, Bool, true, false, cond, ℕ, zero, suc, ◌+◌, ◌-◌, ◌*◌, ltb, ℤ, pos, negsuc, neg_ℤ, ◌+ℤ◌, ◌-ℤ◌, ◌*ℤ◌}
use Rattle.std.proofs.Common.{sym, ◌∙◌, arith, ltb-true, ltb-false, lt-ltb, le-ltb}
use Rattle.std.proofs.Math.IntN.{sub_ℕ}
use Rattle.std.specs.Int.Signed.{lt_z}

-- p less m is the whole number z
abbrev pub Is : ℕ → ℕ → ℤ → Type 0
Is p m (pos n) = p ≡ m + n
Is p m (negsuc n) = m ≡ p + suc n

is_sub : (p m a b : ℕ) → p + b ≡ m + a → Is p m (sub_ℕ a b)
is_sub p m a b h = go (ltb a b) refl
  where
    go : (t : Bool) → ltb a b ≡ t → Is p m (cond t (negsuc (b - suc a)) (pos (a - b)))
    go true e = omega (arith, ltb-true a b e)
    go false e = omega (arith, ltb-false a b e)

pub is_add : (p m q n : ℕ) (x y : ℤ) → Is p m x → Is q n y → Is (p + q) (m + n) (x +ℤ y)
is_add p m q n (pos a) (pos b) h k = omega arith
is_add p m q n (pos a) (negsuc b) h k = is_sub (p + q) (m + n) a (suc b) (omega arith)
is_add p m q n (negsuc a) (pos b) h k = is_sub (p + q) (m + n) b (suc a) (omega arith)
is_add p m q n (negsuc a) (negsuc b) h k = omega arith

is_minus : (p m k : ℕ) → m ≡ p + k → Is p m (neg_ℤ (pos k))
is_minus p m zero h = omega arith
is_minus p m (suc k) h = h

pub is_neg : (p m : ℕ) (x : ℤ) → Is p m x → Is m p (neg_ℤ x)
is_neg p m (pos n) h = is_minus m p n h
is_neg p m (negsuc n) h = h

pub is_mul : (p m q n : ℕ) (x y : ℤ) → Is p m x → Is q n y → Is (p * q + m * n) (p * n + m * q) (x *ℤ y)
is_mul p m q n (pos a) (pos b) h k = rw (h, k) (omega arith)
is_mul p m q n (pos a) (negsuc b) h k = is_minus (p * q + m * n) (p * n + m * q) (a * suc b) (rw (h, k) (omega arith))
is_mul p m q n (negsuc a) (pos b) h k = is_minus (p * q + m * n) (p * n + m * q) (suc a * b) (rw (h, k) (omega arith))
is_mul p m q n (negsuc a) (negsuc b) h k = rw (h, k) (omega arith)

pub is_below : (p m : ℕ) (x : ℤ) → Is p m x → lt_z x (pos 0) ≡ ltb p m
is_below p m (pos n) h = le-ltb n 0 (omega arith) ∙ sym (le-ltb p m (omega arith))
is_below p m (negsuc n) h = sym (lt-ltb p m (omega arith))

pub is_above : (p m : ℕ) (x : ℤ) → Is p m x → lt_z (pos 0) x ≡ ltb m p
is_above p m (pos zero) h = sym (le-ltb m p (omega arith))
is_above p m (pos (suc n)) h = lt-ltb 0 (suc n) (omega arith) ∙ sym (lt-ltb m p (omega arith))
is_above p m (negsuc n) h = sym (le-ltb m p (omega arith))

-- the same number in other sums
pub is_same : (p m q n : ℕ) (x : ℤ) → p + n ≡ m + q → Is p m x → Is q n x
is_same p m q n (pos a) e h = omega arith
is_same p m q n (negsuc a) e h = omega arith

pub is_minus_of : (p m q n : ℕ) (x y : ℤ) → Is p m x → Is q n y → Is (p + n) (m + q) (x -ℤ y)
is_minus_of p m q n x y h k = is_add p m n q x (neg_ℤ y) h (is_neg q n y k)

-- two numbers moved up by the same have the same difference
pub is_dif : (p q k : ℕ) (x y : ℤ) → Is p k x → Is q k y → Is p q (x -ℤ y)
is_dif p q k x y h l = is_same (p + k) (k + q) p q (x -ℤ y) (omega arith) (is_minus_of p k q k x y h l)
