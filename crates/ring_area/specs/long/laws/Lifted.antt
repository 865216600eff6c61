-- A long number from limb k on, as one with k limbs of 0 below: its amount, its limbs, what is put into it, a difference.
use Rattle.std.specs.Prelude.{◌≡◌, refl, List, ◌∷◌, ℕ, zero, suc, ◌+◌, ◌-◌, ◌*◌, ◌≤◌, ◌<◌, length, get_or}
use Rattle.std.proofs.Common.{sym, ap, ◌∙◌, one-mul, mul_assoc, mul_left_comm, le_of_suc-le-suc, arith}
use Rattle.ring_area.specs.long.Amount.{base, amount, weight, lifted, WholeLimbs}
use Rattle.ring_area.specs.long.Steps.{PutRoom, PutIn, Differs}

pub lifted_none : (l : List ℕ) → lifted 0 l ≡ l
unfolding lifted
lifted_none l = refl

pub lifted_amount : (k : ℕ) (l : List ℕ) → amount (lifted k l) ≡ weight k * amount l
unfolding lifted
lifted_amount zero l = sym (one-mul (amount l))
lifted_amount (suc k) l = ap (λ (x : ℕ). 0 + base * x) (lifted_amount k l) ∙ up (weight k) (amount l)
  where
    up : (w a : ℕ) → 0 + base * (w * a) ≡ base * w * a
    up w a = let e : base * w * a ≡ base * (w * a) = mul_assoc base w a in omega arith

pub lifted_long : (k : ℕ) (l : List ℕ) → length (lifted k l) ≡ k + length l
unfolding lifted
lifted_long zero l = plain (length l)
  where
    plain : (n : ℕ) → n ≡ 0 + n
    plain n = omega arith
lifted_long (suc k) l = ap suc (lifted_long k l) ∙ over k (length l)
  where
    over : (k n : ℕ) → suc (k + n) ≡ suc k + n
    over k n = omega arith

pub lifted_same : (k : ℕ) (a b : List ℕ) → length (lifted k a) ≡ length (lifted k b) → length a ≡ length b
lifted_same k a b e = omega (arith, lifted_long k a, lifted_long k b)

pub lifted_below : (k : ℕ) (l : List ℕ) (i : ℕ) → i < k → get_or (lifted k l) i 0 ≡ 0
unfolding lifted
lifted_below zero l i h = absurd (omega arith)
lifted_below (suc k) l zero h = refl
lifted_below (suc k) l (suc i) h = lifted_below k l i (le_of_suc-le-suc h)

pub lifted_at : (k : ℕ) (l : List ℕ) (i : ℕ) → k ≤ i → get_or (lifted k l) i 0 ≡ get_or l (i - k) 0
unfolding lifted
lifted_at zero l i h = ap (λ (j : ℕ). get_or l j 0) (plain i)
  where
    plain : (i : ℕ) → i ≡ i - 0
    plain i = omega arith
lifted_at (suc k) l zero h = absurd (omega arith)
lifted_at (suc k) l (suc i) h = lifted_at k l i (le_of_suc-le-suc h) ∙ ap (λ (j : ℕ). get_or l j 0) (both i k)
  where
    both : (i k : ℕ) → i - k ≡ suc i - suc k
    both i k = omega arith

pub lifted_whole : (k : ℕ) {l : List ℕ} → WholeLimbs l → WholeLimbs (lifted k l)
unfolding lifted
lifted_whole zero s = s
lifted_whole (suc k) {l} s = go (lifted_whole k s)
  where
    go : WholeLimbs (lifted k l) → WholeLimbs (0 ∷ lifted k l)
    go t = record { each = λ i. each i }
      where
        each : (i : ℕ) → get_or (0 ∷ lifted k l) i 0 < base
        each zero = omega arith
        each (suc i) = t.each i

-- ---- puts
pub lifted_room : (k : ℕ) {l : List ℕ} {n : ℕ} → PutRoom (lifted k l) n → PutRoom l n
unfolding lifted
lifted_room zero r = r
lifted_room (suc k) r = lifted_room k (record { each = λ i. r.each (suc i) })

one_up : {a b : List ℕ} {n m : ℕ} → PutIn a b n m → PutIn (0 ∷ a) (0 ∷ b) (base * n) m
one_up {a} {b} {n} {m} p = record {
  total = ap (λ (x : ℕ). 0 + base * x) p.total ∙ spread (amount a) n;
  long = ap suc p.long;
  grown = go;
  most = wide (weight (length a)) p.most;
}
  where
    spread : (a n : ℕ) → 0 + base * (a + n) ≡ 0 + base * a + base * n
    spread a n = omega arith

    go : (k : ℕ) → get_or (0 ∷ b) k 0 ≤ get_or (0 ∷ a) k 0 + m * base
    go zero = omega arith
    go (suc k) = p.grown k

    wide : (w : ℕ) → base * n ≤ m * w → base * (base * n) ≤ m * (base * w)
    wide w h = let e : m * (base * w) ≡ base * (m * w) = mul_left_comm m base w in omega arith

pub lifted_put : (k : ℕ) {a b : List ℕ} {n m : ℕ} → PutIn a b n m → PutIn (lifted k a) (lifted k b) (weight k * n) m
unfolding lifted
lifted_put zero {n = n} p = rw (one-mul n) p
lifted_put (suc k) {a} {b} {n} {m} p = rw (mul_assoc base (weight k) n) (one_up (lifted_put k p))

-- ---- a difference
one_differs : {a b c d : List ℕ} {r : ℕ} → Differs a b c d r → Differs (0 ∷ a) (0 ∷ b) (0 ∷ c) (0 ∷ d) r
unfolding lifted
one_differs {a} {b} {c} {d} {r} h = record {
  total = spread (amount d) (amount b) (amount a) (weight (length c)) h.total;
  settled = lifted_whole 1 h.settled;
  long = ap suc h.long;
  borrowed = h.borrowed;
}
  where
    spread : (d b a w : ℕ) → d + b ≡ a + r * w → 0 + base * d + (0 + base * b) ≡ 0 + base * a + r * (base * w)
    spread d b a w e = let f : r * (base * w) ≡ base * (r * w) = mul_left_comm r base w in omega arith

pub lifted_differs : (k : ℕ) {a b c d : List ℕ} {r : ℕ} → Differs a b c d r → Differs (lifted k a) (lifted k b) (lifted k c) (lifted k d) r
unfolding lifted
lifted_differs zero h = h
lifted_differs (suc k) h = one_differs (lifted_differs k h)
