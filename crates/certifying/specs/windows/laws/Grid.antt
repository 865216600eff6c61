-- Rounding on whole numbers keeps the order: `sum_grid` is a sum of two values in units of 2 ^ -1074, `product_grid` a product; of twice a number, and of what binary64 holds.
use Rattle.std.specs.Prelude.{◌≡◌, refl, ℕ, suc, zero, ◌+◌, ◌-◌, ◌*◌, ◌/◌, ◌^◌, ◌≤◌, ◌<◌, T, Float}
use Rattle.std.proofs.Common.{sym, ap, ◌∙◌, subst, ⊎_elim, inl, inr, zero-le, le_trans, le_of_eq, le_antisymm, lt_of_le_of_lt, eq-or-lt_of_le, mul_assoc, mul-one, mul-le-mul_right, mul-pos, mul-div_cancel, arith, lit<, pow-add, pow_pos, pow_mono}
use Prim.{tt}
use Rattle.std.specs.Float.{nan, inf, fin, binary64}
use Rattle.std.specs.Float.Ieee.{size, fits}
use Rattle.std.specs.Float.Ieee.Digits.{size-lt, size-le}
use Rattle.std.specs.Float.Ieee.Nearest.{closest, closest_mono, div_mono}
use Rattle.std.specs.Float.Ieee.Order.{drop, kept}
use Rattle.std.specs.Float.Ieee.Scale.{grid, grid_scale, finite}
use Rattle.base.specs.common.laws.Decide.{lt_or_ge}
use Rattle.root.specs.Root.{units}
use Rattle.root.specs.laws.Rounding.{grid_most, grid_least}
use Rattle.ring_area.specs.rounded.laws.Patterns.{kept_most, kept_least}
use Rattle.root.specs.laws.Units.{held_units, zero_units}

-- ---- n / d with 53 digits kept
abbrev pub ratio_grid : ℕ → ℕ → ℕ
ratio_grid n d = kept 53 n d * 2 ^ drop 53 n d

same_drop : (k a b c d : ℕ) → 0 < b → 0 < d → a * d ≤ c * b → closest a (b * 2 ^ k) * 2 ^ k ≤ closest c (d * 2 ^ k) * 2 ^ k
same_drop k a b c d B D h =
    mul-le-mul_right (2 ^ k)
    (closest_mono a (b * 2 ^ k) c (d * 2 ^ k) (mul-pos B (pow_pos k)) (mul-pos D (pow_pos k))
    (le_trans (le_of_eq (sym (mul_assoc a d (2 ^ k)))) (le_trans (mul-le-mul_right (2 ^ k) h) (le_of_eq (mul_assoc c b (2 ^ k))))))

-- Both drop as many digits, or a power of two lies between the two.
pub ratio_mono : (a b c d : ℕ) → 0 < b → 0 < d → a * d ≤ c * b → ratio_grid a b ≤ ratio_grid c d
ratio_mono a b c d B D h =
    let j = drop 53 a b in
    let k = drop 53 c d in
    elim (eq-or-lt_of_le (fewer (size (a / b)) (size (c / d)) (size_mono (a / b) (c / d) (div_mono a b c d B D h)))) [
      | inl e ↦ subst (λ (x : ℕ). closest a (b * 2 ^ x) * 2 ^ x ≤ kept 53 c d * 2 ^ k) (sym e) (same_drop k a b c d B D h)
      | inr l ↦
          le_trans (mul-le-mul_right (2 ^ j) (kept_most a b))
          (le_trans (le_of_eq (sym (pow-add 2 53 j)))
          (le_trans (pow_mono (room j k l))
          (le_trans (le_of_eq (pow-add 2 52 k)) (mul-le-mul_right (2 ^ k) (kept_least c d (lt_of_le_of_lt zero-le l))))))
    ]
  where
    fewer : (x y : ℕ) → x ≤ y → x - 53 ≤ y - 53
    fewer x y h = omega arith

    size_mono : (a b : ℕ) → a ≤ b → size a ≤ size b
    size_mono a b h = size-le a (size b) (lt_of_le_of_lt h (size-lt b))

    room : (j k : ℕ) → j < k → 53 + j ≤ 52 + k
    room j k h = omega arith

pub ratio_same : (a b c d : ℕ) → 0 < b → 0 < d → a * d ≡ c * b → ratio_grid a b ≡ ratio_grid c d
ratio_same a b c d B D e = le_antisymm (ratio_mono a b c d B D (le_of_eq e)) (ratio_mono c d a b D B (le_of_eq (sym e)))

-- ---- whole numbers of units, and of units of a unit
unfoldable pub sum_grid : ℕ → ℕ
sum_grid n = ratio_grid n 1

unfoldable pub product_grid : ℕ → ℕ
product_grid n = ratio_grid n (2 ^ 1074)

pub sum_mono : {n m : ℕ} → n ≤ m → sum_grid n ≤ sum_grid m
unfolding sum_grid
sum_mono {n} {m} h = ratio_mono n 1 m 1 (lit< tt) (lit< tt) (mul-le-mul_right 1 h)

pub product_mono : {n m : ℕ} → n ≤ m → product_grid n ≤ product_grid m
unfolding product_grid
product_mono {n} {m} h = ratio_mono n (2 ^ 1074) m (2 ^ 1074) (pow_pos 1074) (pow_pos 1074) (mul-le-mul_right (2 ^ 1074) h)

pub sum_none : sum_grid 0 ≡ 0
unfolding sum_grid
sum_none = let h = grid_most 53 0 1 0 0 (lit< tt) (lit< tt) (zero-le) in omega arith

pub product_none : product_grid 0 ≡ 0
unfolding product_grid
product_none = let h = grid_most 53 0 (2 ^ 1074) 0 0 (pow_pos 1074) (lit< tt) (zero-le) in omega arith

-- the rounding of a / c, where that is w units, and where it is w units of a unit
pub grid_sum : (a c w : ℕ) → 0 < c → a * 2 ^ 1074 ≡ w * c → grid binary64 a c ≡ sum_grid w
unfolding sum_grid
grid_sum a c w C e = ratio_same (a * 2 ^ 1074) c w 1 C (lit< tt) (mul-one (a * 2 ^ 1074) ∙ e)

pub grid_product : (a c w : ℕ) → 0 < c → a * 2 ^ 1074 * 2 ^ 1074 ≡ w * c → grid binary64 a c ≡ product_grid w
unfolding product_grid
grid_product a c w C e = ratio_same (a * 2 ^ 1074) c w (2 ^ 1074) C (pow_pos 1074) e

-- ---- twice a number rounds to at most twice what it rounds to
at_least : (n : ℕ) → n < 2 ^ 53 → n ≤ sum_grid n
unfolding sum_grid
at_least n h = le_trans (le_of_eq (sym (mul-one n))) (grid_least 53 n 1 n 0 (lit< tt) h (lit< tt) (le_of_eq (mul-one (n * 1) ∙ mul-one n)))

least : (n q t : ℕ) → q < 2 ^ 53 → n ≡ q * 2 ^ t → n ≤ ratio_grid n 1
least n q t Q e = le_trans (le_of_eq e) (grid_least 53 n 1 q t (lit< tt) Q (lit< tt) (le_of_eq (mul-one (q * 2 ^ t) ∙ sym e)))

twice_least : (q t : ℕ) → q ≤ 2 ^ 53 → 2 * (q * 2 ^ t) ≤ ratio_grid (2 * (q * 2 ^ t)) 1
twice_least q t Q = elim (eq-or-lt_of_le Q) [
  | inl e ↦ least (2 * (q * 2 ^ t)) (2 ^ 52) (t + 2) (lit< tt) (up (2 ^ t) (2 ^ (t + 2)) e (pow-add 2 t 2))
  | inr l ↦ least (2 * (q * 2 ^ t)) q (t + 1) l (one q (2 ^ t) (2 ^ (t + 1)) (pow-add 2 t 1))
]
  where
    up : (x y : ℕ) → q ≡ 2 ^ 53 → y ≡ x * 4 → 2 * (q * x) ≡ 2 ^ 52 * y
    up x y e f = rw (e, f) (omega arith)

    one : (q x y : ℕ) → y ≡ x * 2 → 2 * (q * x) ≡ q * y
    one q x y f = rw f (omega arith)

holds_twice : (n : ℕ) → 2 * sum_grid n ≤ sum_grid (2 * sum_grid n)
unfolding sum_grid
holds_twice n = twice_least (kept 53 n 1) (drop 53 n 1) (kept_most n 1)

module _ (n : ℕ) (h : 2 ^ 53 ≤ n) where
  long : 53 ≤ size (n * 2 ^ 1074 / 2 ^ 1074)
  long = subst (λ (x : ℕ). 53 ≤ size x) (sym (mul-div_cancel n (pow_pos 1074))) (⊎_elim (λ l. absurd (over (2 ^ size n) (pow_mono (shorter (size n) l)) (size-lt n))) (λ l. l) (lt_or_ge (size n) 53))
    where
      shorter : (z : ℕ) → z < 53 → z ≤ 53
      shorter z l = omega arith

      over : (p : ℕ) → p ≤ 2 ^ 53 → n < p → ⊥
      over p a b = omega arith

  doubled : sum_grid (2 * n) ≡ 2 * sum_grid n
  doubled =
      sym (grid_sum (n * 2 ^ 1) (2 ^ 1074) (2 * n) (pow_pos 1074) (ap (λ (x : ℕ). x * 2 ^ 1074) (sym (turned n))))
      ∙ grid_scale binary64 n (2 ^ 1074) 1 (pow_pos 1074) long
      ∙ ap (λ (x : ℕ). x * 2 ^ 1) (grid_sum n (2 ^ 1074) n (pow_pos 1074) refl)
      ∙ sym (turned (sum_grid n))
    where
      turned : (n : ℕ) → 2 * n ≡ n * 2 ^ 1
      turned n = omega arith

pub sum_twice : (n : ℕ) → sum_grid (2 * n) ≤ sum_grid (2 * sum_grid n)
sum_twice n = ⊎_elim (λ h. sum_mono (go (sum_grid n) (at_least n h))) (λ h. le_trans (le_of_eq (doubled n h)) (holds_twice n)) (lt_or_ge n (2 ^ 53))
  where
    go : (g : ℕ) → n ≤ g → 2 * n ≤ 2 * g
    go g h = omega arith

-- ---- what binary64 holds stays
pub sum_held : (x : Float) → T (fits binary64 x) → T (finite x) → sum_grid (units x) ≤ units x
unfolding sum_grid
sum_held nan f t = absurd t
sum_held (inf s) f t = absurd t
sum_held (fin s zero e) f t = subst (λ (n : ℕ). sum_grid n ≤ n) (sym (zero_units s e)) (le_of_eq sum_none)
sum_held (fin s (suc m) e) f t =
    let h = held_units s m e f in
    subst (λ (n : ℕ). sum_grid n ≤ n) (sym h.value) (grid_most 53 (suc m * 2 ^ h.zeros) 1 (suc m) h.zeros (lit< tt) h.digits (le_of_eq (sym (mul-one _))))
