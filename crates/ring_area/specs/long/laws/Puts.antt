-- One put, puts one after the other, and a product by the halves of its factors.
use Rattle.std.specs.Prelude.{◌≡◌, List, ℕ, suc, ◌+◌, ◌*◌, ◌/◌, ◌%◌, ◌^◌, ◌≤◌, ◌<◌, length, get_or, set}
use Rattle.std.proofs.Common.{sym, ap, ◌∙◌, subst, ⊎_elim, mul_assoc, mul_comm, mul_left_comm, add-mul, add_assoc, one-mul, div-add-mod', le_trans, le_of_eq, le_of_lt, mul-le-mul_right, arith, add-one, length-set, get_or-set_same, get_or-set_other}
use Rattle.base.specs.common.laws.Decide.{eq_or_ne}
use Rattle.ring_area.specs.long.Amount.{base, weight, amount}
use Rattle.ring_area.specs.long.Steps.{PutRoom, PutIn}
use Rattle.ring_area.specs.long.laws.Amounts.{weight_mono, amount_more}

-- two numbers of 32 bits
pub product_small : (n p : ℕ) → n < base → p < base → n * p < 2 ^ 64
product_small n p h g =
    let a : n * p ≤ base * p = mul-le-mul_right p (le_of_lt h) in
    omega arith

-- ---- puts one after the other
module _ {a b : List ℕ} {x m : ℕ} (p : PutIn a b x m) where
  pub added_then : {c : List ℕ} {y n : ℕ} → PutIn b c y n → PutIn a c (x + y) (m + n)
  added_then {c} {y} {n} q = record {
    total = q.total ∙ ap (λ (z : ℕ). z + y) p.total ∙ add_assoc (amount a) x y;
    long = q.long ∙ p.long;
    grown = λ k. omega (arith, p.grown k, q.grown k, add-mul m n base);
    most = both (weight (length a)) p.most (subst (λ (k : ℕ). base * y ≤ n * weight k) p.long q.most);
  }
    where
      both : (w : ℕ) → base * x ≤ m * w → base * y ≤ n * w → base * (x + y) ≤ (m + n) * w
      both w g h = let e : (m + n) * w ≡ m * w + n * w = add-mul m n w in omega arith

  pub added_as : (y : ℕ) → x ≡ y → PutIn a b y m
  added_as y e = rw e at p

  pub roomy_after : (n : ℕ) → PutRoom a (m + n) → PutRoom b n
  roomy_after n r = record { each = λ k. omega (arith, p.grown k, r.each k, add-mul m n base) }

pub roomy_fewer : {l : List ℕ} (m n : ℕ) → PutRoom l (m + n) → PutRoom l m
roomy_fewer m n r = record { each = λ k. omega (arith, r.each k, add-mul m n base) }

-- ---- one put
abbrev pub lower : List ℕ → ℕ → ℕ → List ℕ
lower l k x = set l k (get_or l k 0 + x % base)

module _ (l : List ℕ) (k x : ℕ) (h : k + 2 < length l) where
  as_long : length (lower l k x) ≡ length l
  as_long = length-set l k (get_or l k 0 + x % base)

  next : get_or (lower l k x) (k + 1) 0 ≡ get_or l (k + 1) 0
  next = get_or-set_other l k (k + 1) (get_or l k 0 + x % base) 0 (apart k)
    where
      apart : (k : ℕ) → k + 1 ≡ k → ⊥
      apart k e = omega (arith, e)

  put_total : amount (set (lower l k x) (k + 1) (get_or l (k + 1) 0 + x / base)) ≡ amount l + x * weight k
  put_total =
      ap (λ (z : ℕ). amount (set (lower l k x) (k + 1) (z + x / base))) (sym next)
      ∙ amount_more (lower l k x) (k + 1) (x / base) (omega (arith, as_long))
      ∙ ap (λ (z : ℕ). z + x / base * weight (k + 1)) (amount_more l k (x % base) (omega arith))
      ∙ ap (λ (z : ℕ). amount l + x % base * weight k + x / base * weight z) (add-one k)
      ∙ whole (amount l) x (weight k)
    where
      whole : (a x v : ℕ) → a + x % base * v + x / base * (base * v) ≡ a + x * v
      whole a x v =
          let e : x / base * base + x % base ≡ x = div-add-mod' x base in
          let f : (x / base * base + x % base) * v ≡ x / base * base * v + x % base * v = add-mul (x / base * base) (x % base) v in
          let g : x / base * base * v ≡ x / base * (base * v) = mul_assoc (x / base) base v in
          let j : (x / base * base + x % base) * v ≡ x * v = ap (λ (z : ℕ). z * v) e in
          omega (arith, f, g, j)

  put_grown : x < 2 ^ 64 → (j : ℕ) → get_or (set (lower l k x) (k + 1) (get_or l (k + 1) 0 + x / base)) j 0 ≤ get_or l j 0 + 1 * base
  put_grown s j = ⊎_elim here (λ n. ⊎_elim (there n) (apart n) (eq_or_ne j k)) (eq_or_ne j (k + 1))
    where
      new : ℕ
      new = get_or l (k + 1) 0 + x / base

      here : j ≡ k + 1 → get_or (set (lower l k x) (k + 1) new) j 0 ≤ get_or l j 0 + 1 * base
      here e = rw e (omega (arith, get_or-set_same (lower l k x) (k + 1) new 0 (omega (arith, as_long))))

      there : (j ≡ k + 1 → ⊥) → j ≡ k → get_or (set (lower l k x) (k + 1) new) j 0 ≤ get_or l j 0 + 1 * base
      there n e =
          let f : get_or (lower l k x) j 0 ≡ get_or l j 0 + x % base = rw e (get_or-set_same l k (get_or l k 0 + x % base) 0 (omega arith)) in
          omega (arith, get_or-set_other (lower l k x) (k + 1) j new 0 n)

      apart : (j ≡ k + 1 → ⊥) → (j ≡ k → ⊥) → get_or (set (lower l k x) (k + 1) new) j 0 ≤ get_or l j 0 + 1 * base
      apart n n' =
          let f : get_or (lower l k x) j 0 ≡ get_or l j 0 = get_or-set_other l k j (get_or l k 0 + x % base) 0 n' in
          omega (arith, get_or-set_other (lower l k x) (k + 1) j new 0 n)

  pub put_added : x < 2 ^ 64 → PutIn l (set (lower l k x) (k + 1) (get_or l (k + 1) 0 + x / base)) (x * weight k) 1
  put_added s = record {
    total = put_total;
    long = length-set (lower l k x) (k + 1) (get_or l (k + 1) 0 + x / base) ∙ as_long;
    grown = put_grown s;
    most = le_trans (high x (weight k) (le_of_lt s)) (le_trans (weight_mono {j = suc (suc (suc k))} {k = length l} (omega arith)) (le_of_eq (sym (one-mul (weight (length l))))));
  }
    where
      high : (x v : ℕ) → x ≤ 2 ^ 64 → base * (x * v) ≤ base * (base * (base * v))
      high x v h = let e : x * v ≤ 2 ^ 64 * v = mul-le-mul_right v h in omega arith

-- ---- a factor by its halves: the lower at limb k, the upper at the next
halves : (n a : ℕ) → n % base * a + n / base * (base * a) ≡ n * a
halves n a =
    let e : n / base * base + n % base ≡ n = div-add-mod' n base in
    let f : (n / base * base + n % base) * a ≡ n / base * base * a + n % base * a = add-mul (n / base * base) (n % base) a in
    let g : n / base * base * a ≡ n / base * (base * a) = mul_assoc (n / base) base a in
    let j : (n / base * base + n % base) * a ≡ n * a = ap (λ (z : ℕ). z * a) e in
    omega (arith, f, g, j)

up : (q k : ℕ) → q * weight (k + 1) ≡ base * (q * weight k)
up q k = ap (λ (z : ℕ). q * weight z) (add-one k) ∙ mul_left_comm q base (weight k)

pub two_puts : (n p k : ℕ) → n % base * p * weight k + n / base * p * weight (k + 1) ≡ n * p * weight k
two_puts n p k =
    let a : n % base * p * weight k ≡ n % base * (p * weight k) = mul_assoc (n % base) p (weight k) in
    let b : n / base * p * weight (k + 1) ≡ n / base * (base * (p * weight k)) = mul_assoc (n / base) p (weight (k + 1)) ∙ ap (λ (z : ℕ). n / base * z) (up p k) in
    let c : n * p * weight k ≡ n * (p * weight k) = mul_assoc n p (weight k) in
    omega (arith, a, b, c, halves n (p * weight k))

pub two_rows : (x y p k : ℕ) → x % base * y * p * weight k + x / base * y * p * weight (k + 1) ≡ x * y * p * weight k
two_rows x y p k =
    let a : x % base * y * p ≡ x % base * (y * p) = mul_assoc (x % base) y p in
    let b : x / base * y * p ≡ x / base * (y * p) = mul_assoc (x / base) y p in
    let c : x * y * p ≡ x * (y * p) = mul_assoc x y p in
    rw (a, b, c) (two_puts x (y * p) k)

pub two_columns : (x y p k : ℕ) → x * (y % base) * p * weight k + x * (y / base) * p * weight (k + 1) ≡ x * y * p * weight k
two_columns x y p k = rw (mul_comm x (y % base), mul_comm x (y / base), mul_comm x y) (two_rows y x p k)
