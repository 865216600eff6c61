-- One rounding against a bound that the format holds, q * 2 ^ t of its smallest values with q of no more digits than it keeps:
-- what is at most (at least) the bound rounds to at most (at least) the bound.
use Rattle.std.specs.Prelude.{◌≡◌, Bool, true, false, cond, T, ltb, Float}
use Rattle.std.proofs.Common.{sym, ap, ◌∙◌, subst, ⊎_elim, le_trans, le_of_eq, le_of_lt, lt_of_le_of_lt, lt_of_lt_of_le, mul-le-mul_right, mul_assoc, mul_comm, mul_left_comm, mul-one, mul-pos, div-one, div-lt_iff_lt-mul, le-div_iff_mul-le, mul-lt-mul_of_pos_right, arith, ltb→lt, pow-add, pow_pos, pow_mono, shl_lt}
use Prim.{tt}
use Prim.Native.Nat.{ℕ, suc, ◌+◌, ◌-◌, ◌*◌, ◌/◌, ◌%◌, ◌^◌, ◌≤◌, ◌<◌, compare}
use Rattle.std.specs.Float.{inf, Format}
use Rattle.std.specs.Float.Ieee.{prec, low, size, nearest, units, odd, round}
use Rattle.std.specs.Float.Ieee.Digits.{size-le, size_reaches}
use Rattle.std.specs.Float.Ieee.Exact.{HasValue, units_val}
use Rattle.std.specs.Float.Ieee.Fits.{round_is}
use Rattle.std.specs.Float.Ieee.Nearest.{closest, closest_mono}
use Rattle.std.specs.Float.Ieee.Order.{drop, kept}
use Rattle.std.specs.Float.Ieee.Scale.{grid, finite, overflow}
use Rattle.base.specs.common.laws.Decide.{lt_or_ge}

-- ---- to the nearest whole number
rest : (n : ℕ) → n % 1 ≡ 0
rest n = omega arith

whole : (n : ℕ) → closest n 1 ≡ n
whole n = ap (λ (x : ℕ). nearest (n / 1) (compare (x * 2) 1)) (rest n) ∙ div-one n

closest_le : (n d w : ℕ) → 0 < d → n ≤ w * d → closest n d ≤ w
closest_le n d w D h = le_trans (closest_mono n d w 1 D (pow_pos 0) (le_trans (le_of_eq (mul-one n)) h)) (le_of_eq (whole w))

closest_ge : (n d w : ℕ) → 0 < d → w * d ≤ n → w ≤ closest n d
closest_ge n d w D h = le_trans (le_of_eq (sym (whole w))) (closest_mono w 1 n d (pow_pos 0) D (le_trans h (le_of_eq (sym (mul-one n)))))

-- ---- n / c, of which p digits are kept
module _ (p n c q t : ℕ) (C : 0 < c) (Q : q < 2 ^ p) where
  again : (j : ℕ) → j ≤ t → q * 2 ^ (t - j) * 2 ^ j ≡ q * 2 ^ t
  again j h = mul_assoc q (2 ^ (t - j)) (2 ^ j) ∙ ap (λ (x : ℕ). q * x) (sym (pow-add 2 (t - j) j) ∙ ap (λ (x : ℕ). 2 ^ x) (back t j h))
    where
      back : (t j : ℕ) → j ≤ t → t - j + j ≡ t
      back t j h = omega arith

  split : (j : ℕ) → j ≤ t → q * 2 ^ t * c ≡ q * 2 ^ (t - j) * (c * 2 ^ j)
  split j h = ap (λ (x : ℕ). x * c) (sym (again j h)) ∙ (simp (mul_assoc, mul_comm, mul_left_comm))

  pub grid_most : n ≤ q * 2 ^ t * c → kept p n c * 2 ^ drop p n c ≤ q * 2 ^ t
  grid_most h =
      let j = drop p n c in
      let small : n / c < 2 ^ (p + t) = (div-lt_iff_lt-mul C).1 (lt_of_le_of_lt h (mul-lt-mul_of_pos_right (shl_lt p t Q) C)) in
      let J : j ≤ t = spare (size (n / c)) p t (size-le (n / c) (p + t) small) in
      let k : kept p n c ≤ q * 2 ^ (t - j) = closest_le n (c * 2 ^ j) (q * 2 ^ (t - j)) (mul-pos C (pow_pos j)) (le_trans h (le_of_eq (split j J))) in
      le_trans (mul-le-mul_right (2 ^ j) k) (le_of_eq (again j J))
    where
      spare : (z p t : ℕ) → z ≤ p + t → z - p ≤ t
      spare z p t h = omega arith

  pub grid_least : 0 < p → q * 2 ^ t * c ≤ n → q * 2 ^ t ≤ kept p n c * 2 ^ drop p n c
  grid_least P h = ⊎_elim far near (lt_or_ge t (drop p n c))
    where
      j : ℕ
      j = drop p n c

      near : j ≤ t → q * 2 ^ t ≤ kept p n c * 2 ^ j
      near J = le_trans (le_of_eq (sym (again j J))) (mul-le-mul_right (2 ^ j) (closest_ge n (c * 2 ^ j) (q * 2 ^ (t - j)) (mul-pos C (pow_pos j)) (le_trans (le_of_eq (sym (split j J))) h)))

      long : (z p t : ℕ) → 0 < p → t < z - p → p - 1 + (z - p) < z
      long z p t P h = omega arith

      more : (p t j : ℕ) → 0 < p → t < j → p + t ≤ p - 1 + j
      more p t j P h = omega arith

      far : t < j → q * 2 ^ t ≤ kept p n c * 2 ^ j
      far J =
          let w : 2 ^ (p - 1 + j) * c ≤ n = (le-div_iff_mul-le C).0 (size_reaches (n / c) (p - 1 + j) (long (size (n / c)) p t P J)) in
          let e : 2 ^ (p - 1 + j) ≡ 2 ^ (p - 1) * 2 ^ j = pow-add 2 (p - 1) j in
          let g : 2 ^ (p - 1) * (c * 2 ^ j) ≤ n = le_trans (le_of_eq ((simp (mul_assoc, mul_comm, mul_left_comm)) ∙ ap (λ (x : ℕ). x * c) (sym e))) w in
          let k : 2 ^ (p - 1) ≤ kept p n c = closest_ge n (c * 2 ^ j) (2 ^ (p - 1)) (mul-pos C (pow_pos j)) g in
          le_trans (le_of_lt (lt_of_lt_of_le (shl_lt p t Q) (pow_mono (more p t j P J)))) (le_trans (le_of_eq e) (mul-le-mul_right (2 ^ j) k))

-- ---- the rounded value, by its smallest values
units_within : (f : Format) (s : Bool) (q k : ℕ) → T (finite (units f s q k)) → q * 2 ^ k < overflow f
unfolding units
units_within f s q k = go (ltb (q * 2 ^ k) (overflow f)) (ltb→lt (q * 2 ^ k) (overflow f))
  where
    go : (b : Bool) → (T b → q * 2 ^ k < overflow f) → T (finite (cond b (odd (suc (prec f)) s q k (low f)) (inf s))) → q * 2 ^ k < overflow f
    go true h t = h tt
    go false h t = absurd t

module _ (f : Format) (s : Bool) (a c : ℕ) where
  pub round_has : grid f a c < overflow f → HasValue (round f s a c) s (grid f a c) (2 ^ low f)
  round_has h =
      subst (λ (z : Float). HasValue z s (grid f a c) (2 ^ low f)) (sym (round_is f s a c))
      (units_val f s (kept (prec f) (a * 2 ^ low f) c) (drop (prec f) (a * 2 ^ low f) c) h)

  pub round_within : T (finite (round f s a c)) → grid f a c < overflow f
  round_within t = units_within f s (kept (prec f) (a * 2 ^ low f) c) (drop (prec f) (a * 2 ^ low f) c) (subst (λ (z : Float). T (finite z)) (round_is f s a c) t)
