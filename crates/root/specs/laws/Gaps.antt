-- Which whole numbers of units binary64 holds, and that a root which is `NearWhole` is the nearest among them. Nothing here is about floats.
use Rattle.std.specs.Prelude.{◌≡◌, ℕ, zero, suc, ◌+◌, ◌-◌, ◌*◌, ◌^◌, ◌≤◌, ◌<◌}
use Rattle.std.proofs.Common.{sym, ap, ◌∙◌, subst, inl, inr, ⊎_elim, mul_assoc, mul_comm, le_trans, le_of_eq, le_of_lt, lt_of_lt_of_le, lt_of_le_of_lt, lt_irrefl, eq-or-lt_of_le, mul-le-mul_left, mul-le-mul_right, mul-lt-mul_of_pos_right, lt_of_mul-lt-mul_right, add-sub_of_le, arith, pow_mono, pow-add, shl_lt}
use Rattle.root.specs.whole_root.Near.{sq, NearWhole}
use Rattle.root.specs.laws.Squares.{le_or_lt, sq_mono, sq_lt, sq_pos}

-- no number with at most 53 digits and zeros lies between two neighbours of 53 digits and h zeros
pub no_between : (k h m j : ℕ) → 2 ^ 52 ≤ k → m < 2 ^ 53 → k * 2 ^ h < m * 2 ^ j → suc k * 2 ^ h ≤ m * 2 ^ j
no_between k h m j K M l = ⊎_elim far near (le_or_lt h j)
  where
    far : h ≤ j → suc k * 2 ^ h ≤ m * 2 ^ j
    far g =
        let d = j - h in
        let e : m * 2 ^ j ≡ m * 2 ^ d * 2 ^ h = ap (λ (x : ℕ). m * x)
        (ap (λ (x : ℕ). 2 ^ x) (sym (add-sub_of_le g)) ∙ pow-add 2 h d ∙ mul_comm (2 ^ h) (2 ^ d)) ∙ sym (mul_assoc m (2 ^ d) (2 ^ h)) in
        le_trans (mul-le-mul_right (2 ^ h) (lt_of_mul-lt-mul_right (2 ^ h) (lt_of_lt_of_le l (le_of_eq e)))) (le_of_eq (sym e))

    near : j < h → suc k * 2 ^ h ≤ m * 2 ^ j
    near g = absurd (lt_irrefl (k * 2 ^ h)
        (lt_of_lt_of_le l
        (le_trans (le_of_lt (shl_lt 53 j M))
        (le_trans (pow_mono (more j h g)) (le_trans (le_of_eq (pow-add 2 52 h)) (mul-le-mul_right (2 ^ h) K))))))
      where
        more : (j h : ℕ) → j < h → 53 + j ≤ 52 + h
        more j h g = omega arith

-- a square, and a multiple of one, in larger units
times : (a p : ℕ) → sq (a * p) ≡ sq a * sq p
times a p = omega arith

four : (n p : ℕ) → 4 * n * p ≡ 4 * (n * p)
four n p = omega arith

module _ {n q : ℕ} (near : NearWhole n q) (low : 2 ^ 104 ≤ n) where
  pub reaches : 2 ^ 52 ≤ q
  reaches = ⊎_elim (λ g. g) (λ g. absurd (no n near.high low (sq_mono (up g)))) (le_or_lt (2 ^ 52) q)
    where
      up : q < 2 ^ 52 → 2 * q + 1 ≤ 2 ^ 53 - 1
      up g = omega arith

      no : (n : ℕ) {x : ℕ} → 4 * n < x → 2 ^ 104 ≤ n → x ≤ sq (2 ^ 53 - 1) → ⊥
      no n h l g = omega arith

  pub stays_below : n + 2 ^ 53 ≤ 2 ^ 106 → q < 2 ^ 53
  stays_below high = ⊎_elim (λ g. absurd (no n near.low high (sq_mono (up g)))) (λ g. g) (le_or_lt (2 ^ 53) q)
    where
      up : 2 ^ 53 ≤ q → 2 ^ 54 - 1 ≤ 2 * q - 1
      up g = omega arith

      no : (n : ℕ) {x : ℕ} → x < 4 * n → n + 2 ^ 53 ≤ 2 ^ 106 → sq (2 ^ 54 - 1) ≤ x → ⊥
      no n h l g = omega arith

  -- v = m * 2 ^ j is another such number
  module _ (h m j : ℕ) (short : m < 2 ^ 53) where
    pub over : q * 2 ^ h < m * 2 ^ j → 4 * (n * sq (2 ^ h)) < sq (q * 2 ^ h + m * 2 ^ j)
    over l =
        lt_of_lt_of_le (lt_of_le_of_lt (le_of_eq (sym (four n (sq (2 ^ h))))) (mul-lt-mul_of_pos_right near.high (sq_pos h)))
        (le_trans (le_of_eq (sym (times (2 * q + 1) (2 ^ h)))) (sq_mono (add q (2 ^ h) (m * 2 ^ j) (no_between q h m j reaches short l))))
      where
        add : (q p v : ℕ) → suc q * p ≤ v → (2 * q + 1) * p ≤ q * p + v
        add q p v g = omega arith

    pub under : m * 2 ^ j < q * 2 ^ h → sq (q * 2 ^ h + m * 2 ^ j) < 4 * (n * sq (2 ^ h))
    under l = elim (eq-or-lt_of_le reaches) [
      | inl e ↦
          lt_of_lt_of_le (sq_lt (twice (q * 2 ^ h) (m * 2 ^ j) l))
          (le_trans (le_of_eq (double q (2 ^ h))) (mul-le-mul_left 4 (mul-le-mul_right (sq (2 ^ h)) (subst (λ (x : ℕ). sq x ≤ n) e low))))
      | inr g ↦
          lt_of_le_of_lt (sq_mono (add q (2 ^ h) (m * 2 ^ j) (one g) (back (q - 1) h (prev g) (subst (λ (x : ℕ). m * 2 ^ j < x * 2 ^ h) (sym (again g)) l))))
          (lt_of_le_of_lt (le_of_eq (times (2 * q - 1) (2 ^ h)))
          (lt_of_lt_of_le (mul-lt-mul_of_pos_right near.low (sq_pos h)) (le_of_eq (four n (sq (2 ^ h))))))
    ]
      where
        twice : (r v : ℕ) → v < r → r + v < 2 * r
        twice r v g = omega arith

        double : (q p : ℕ) → sq (2 * (q * p)) ≡ 4 * (sq q * sq p)
        double q p = omega arith

        again : 2 ^ 52 < q → suc (q - 1) ≡ q
        again g = omega arith

        one : 2 ^ 52 < q → 1 ≤ q
        one g = omega arith

        prev : 2 ^ 52 < q → 2 ^ 52 ≤ q - 1
        prev g = omega arith

        back : (k h : ℕ) → 2 ^ 52 ≤ k → m * 2 ^ j < suc k * 2 ^ h → m * 2 ^ j ≤ k * 2 ^ h
        back k h K g = ⊎_elim (λ f. f) (λ f. absurd (lt_irrefl (m * 2 ^ j) (lt_of_lt_of_le g (no_between k h m j K short f)))) (le_or_lt (m * 2 ^ j) (k * 2 ^ h))

        add : (q p v : ℕ) → 1 ≤ q → v ≤ (q - 1) * p → q * p + v ≤ (2 * q - 1) * p
        add zero p v o g = absurd (no o)
          where
            no : 1 ≤ 0 → ⊥
            no o = omega arith
        add (suc q) p v o g = subst (λ (x : ℕ). suc q * p + v ≤ x * p) odd (sum (subst (λ (x : ℕ). v ≤ x * p) even g))
          where
            even : suc q - 1 ≡ q
            even = omega arith

            odd : 2 * q + 1 ≡ 2 * suc q - 1
            odd = omega arith

            sum : v ≤ q * p → suc q * p + v ≤ (2 * q + 1) * p
            sum g = omega arith
