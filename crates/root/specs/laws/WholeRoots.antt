-- The whole root of a number of at most 106 digits, digit by digit; the whole number nearest to its root; and the square that is taken out of a larger one.
use Rattle.std.specs.Prelude.{◌≡◌, Bool, not, ℕ, zero, suc, ◌+◌, ◌-◌, ◌*◌, ◌/◌, ◌^◌, ◌≤◌, ◌<◌, T, leb, ltb}
use Rattle.std.proofs.Common.{sym, ap, ◌∙◌, subst, mul_assoc, mul-div_cancel, mul-le-mul_right, le_trans, le_of_eq, lt_of_lt_of_le, lt_of_le_of_lt, lt_of_not-le, lt_of_mul-lt-mul_right, le_of_mul-le-mul_right, one-mul, pow-suc, leb→le, ltb→lt, nltb→le, pow_mono, shl_lt}
use Rattle.std.proofs.Math.Bool.{true, false}
use Rattle.std.proofs.Math.Nat.{not-le_of_lt}
use native.Mathlib.Omega.{arith}
use Rattle.std.proofs.Math.Dec.{nleb→lt}
use Rattle.std.specs.Float.Ieee.{size}
use Rattle.std.specs.Float.Ieee.Digits.{size-lt, size-le, size_reaches, back}
use Rattle.base.specs.common.Pick.{pick}
use Rattle.root.specs.whole_root.Near.{sq, NearWhole}
use Rattle.root.specs.whole_root.laws.Rounds.{near_down, near_up}
use Rattle.root.specs.Sqrt.{whole_root, nearest_root}
use Rattle.root.specs.laws.Squares.{sq_mono, sq_pos, pow_sq}

-- ---- the whole root, and the nearest

-- r is the whole root of n
record FloorRoot (n r : ℕ) : Type 0 where
  pub low : sq r ≤ n
  pub high : n < sq (suc r)

-- the root lies at r or above, and below r + 2 ^ k; a digit halves that
abbrev Bracketed : ℕ → ℕ → ℕ → Type 0
Bracketed k r n = (sq r ≤ n) × (n < sq (r + 2 ^ k))

halves : (r k : ℕ) → r + 2 ^ suc k ≡ r + 2 ^ k + 2 ^ k
halves r k = omega (arith, pow-suc 2 k)

whole_root_lem : (k r n : ℕ) → Bracketed k r n → FloorRoot n (whole_root k r n)
unfolding whole_root
whole_root_lem zero r n h = record { low = h.0; high = omega (arith, h.1) }
whole_root_lem (suc k) r n h = whole_root_lem k (pick (leb (sq (r + 2 ^ k)) n) (λ _. r + 2 ^ k) (λ _. r)) n (go (leb (sq (r + 2 ^ k)) n) (leb→le (sq (r + 2 ^ k)) n) (nleb→lt (sq (r + 2 ^ k)) n))
  where
    go : (b : Bool) → (T b → sq (r + 2 ^ k) ≤ n) → (T (not b) → n < sq (r + 2 ^ k)) → Bracketed k (pick b (λ _. r + 2 ^ k) (λ _. r)) n
    go true y _ = (y tt, subst (λ (x : ℕ). n < sq x) (halves r k) h.1)
    go false _ w = (h.0, w tt)

-- of a number of at most 106 digits
module _ (n : ℕ) (some : 0 < n) (short : n < 2 ^ 106) where
  whole : FloorRoot n (whole_root 53 0 n)
  whole = whole_root_lem 53 0 n (omega arith, short)

  pub near : NearWhole n (nearest_root n)
  unfolding nearest_root
  near = go (whole_root 53 0 n) whole
    where
      go : (r : ℕ) → FloorRoot n r → NearWhole n (pick (ltb (r * r + r) n) (λ _. r + 1) (λ _. r))
      go r w = by (ltb (r * r + r) n) (ltb→lt (r * r + r) n) (nltb→le (r * r + r) n)
        where
          by : (b : Bool) → (T b → r * r + r < n) → (T (not b) → n ≤ r * r + r) → NearWhole n (pick b (λ _. r + 1) (λ _. r))
          by true y _ = near_up r n (y tt) w.high
          by false _ y = near_down r n w.low (y tt) some

  pub digits : nearest_root n ≤ 2 ^ 53
  unfolding nearest_root
  digits = go (whole_root 53 0 n) (lt_of_not-le (λ (g : 2 ^ 53 ≤ whole_root 53 0 n). not-le_of_lt short (le_trans (sq_mono g) whole.low)))
    where
      go : (r : ℕ) → r < 2 ^ 53 → pick (ltb (r * r + r) n) (λ _. r + 1) (λ _. r) ≤ 2 ^ 53
      go r h = by (ltb (r * r + r) n)
        where
          by : (b : Bool) → pick b (λ _. r + 1) (λ _. r) ≤ 2 ^ 53
          by true = omega arith
          by false = omega arith

-- ---- the scale: n = m * 2 ^ p, and m has at most 53 digits

-- n is v * 4 ^ h, and v has 105 or 106 digits
pub record Quartered (n v h : ℕ) : Type 0 where
  pub value : n ≡ v * sq (2 ^ h)
  pub low : 2 ^ 104 ≤ v
  pub high : v < 2 ^ 106
  pub room : 53 + h < 2098

module _ (m p n : ℕ) (is : n ≡ m * 2 ^ p) (some : 0 < m) (short : m < 2 ^ 53) (least : 1074 ≤ p) (most : n < 2 ^ 3172) where
  large : 1074 < size n
  large = lt_of_not-le (λ (g : size n ≤ 1074). not-le_of_lt (size-lt n)
      (le_trans (pow_mono (le_trans g least)) (le_trans (le_of_eq (sym (one-mul (2 ^ p)))) (le_trans (mul-le-mul_right (2 ^ p) some) (le_of_eq (sym is))))))

  small : size n ≤ 3172
  small = size-le n 3172 most

  spare : size n ≤ 53 + p
  spare = size-le n (53 + p) (lt_of_le_of_lt (le_of_eq is) (shl_lt 53 p short))

  pub scaled : Quartered n (n / sq (2 ^ ((size n - 105) / 2))) ((size n - 105) / 2)
  scaled =
      let h = (size n - 105) / 2 in
      let e : n ≡ m * 2 ^ (p - (h + h)) * sq (2 ^ h) = is ∙ ap (λ (x : ℕ). m * x)
      (ap (λ (x : ℕ). 2 ^ x) (sym (back p (h + h) (below (size n) p spare large))) ∙ sym (pow_sq (p - (h + h)) h)) ∙ sym (mul_assoc m (2 ^ (p - (h + h))) (sq (2 ^ h))) in
      let v : n / sq (2 ^ h) ≡ m * 2 ^ (p - (h + h)) = ap (λ (x : ℕ). x / sq (2 ^ h)) e ∙ mul-div_cancel (m * 2 ^ (p - (h + h))) (sq_pos h) in
      let w : n ≡ n / sq (2 ^ h) * sq (2 ^ h) = e ∙ ap (λ (x : ℕ). x * sq (2 ^ h)) (sym v) in
      record {
        value = w;
        low = le_of_mul-le-mul_right (le_trans (le_of_eq (pow_sq 104 h)) (le_trans (size_reaches n (104 + (h + h)) (under (size n) large)) (le_of_eq w))) (sq_pos h);
        high = lt_of_mul-lt-mul_right (sq (2 ^ h)) (lt_of_le_of_lt (le_of_eq (sym w)) (lt_of_lt_of_le (size-lt n) (le_trans (pow_mono (over (size n))) (le_of_eq (sym (pow_sq 106 h))))));
        room = fits_in (size n) small;
      }
    where
      below : (s p : ℕ) → s ≤ 53 + p → 1074 < s → (s - 105) / 2 + (s - 105) / 2 ≤ p
      below s p h l = omega arith

      under : (s : ℕ) → 1074 < s → 104 + ((s - 105) / 2 + (s - 105) / 2) < s
      under s l = omega arith

      over : (s : ℕ) → s ≤ 106 + ((s - 105) / 2 + (s - 105) / 2)
      over s = omega arith

      fits_in : (s : ℕ) → s ≤ 3172 → 53 + (s - 105) / 2 < 2098
      fits_in s h = omega arith
