-- One operation on values of binary64 by what is added and what is taken off, exact: a sum, a difference and a product are the rounding of the exact one, on either side of 0.
use Rattle.std.specs.Prelude.{◌≡◌, refl, Bool, true, false, cond, ℕ, ◌+◌, ◌-◌, ◌*◌, ◌^◌, ◌≤◌, ◌<◌, T, ltb, ℤ, Float}
use Rattle.std.proofs.Common.{sym, ap, ◌∙◌, subst, le_trans, le_of_eq, le_of_lt, le_of_mul-le-mul_right, mul-le-mul_right, mul_right_comm, mul_assoc, mul_comm, add-mul, arith, ltb-true, ltb-false}
use Rattle.std.proofs.Math.Nat.{mul-sub}
use Rattle.std.specs.Float.{nan, inf, fin, binary64}
use Rattle.std.specs.Float.Ieee.{up, down, unlike, fits, round, neg, sum, add, sub, mul}
use Rattle.std.specs.Float.Ieee.Fits.{neg-fits}
use Rattle.std.specs.Float.Ieee.Scale.{finite}
use Rattle.base.specs.common.Binary64.{◌⊞◌, ◌⊟◌, ◌⊠◌}
use Rattle.root.specs.Root.{units}
use Rattle.ring_area.specs.Area.{below}
use Rattle.audit_truth.specs.Exact.{plus_units, minus_units}
use Rattle.audit_truth.specs.laws.Operations.{product, below_c}
use Rattle.audit_truth.specs.laws.Roundings.{units_exact, round_sign, round_units}
use Rattle.certifying.specs.windows.laws.Grid.{sum_grid, product_grid, sum_none, product_none, grid_sum, grid_product}

-- z is q - n, rounded
pub record SumIs (z : Float) (q n : ℕ) : Type 0 where
  pub plus : plus_units z ≡ sum_grid (q - n)
  pub minus : minus_units z ≡ sum_grid (n - q)

module _ (z : Float) (w q n : ℕ) (h : units z ≡ sum_grid w) where
  is_plus : below z ≡ false → q ≡ n + w → SumIs z q n
  is_plus s e = record {
    plus = subst (λ (t : Bool). cond t 0 (units z) ≡ sum_grid (q - n)) (sym s) (h ∙ ap sum_grid (over w q n e));
    minus = subst (λ (t : Bool). cond t (units z) 0 ≡ sum_grid (n - q)) (sym s) (sym (ap sum_grid (none w q n e) ∙ sum_none));
  }
    where
      over : (w q n : ℕ) → q ≡ n + w → w ≡ q - n
      over w q n e = omega arith

      none : (w q n : ℕ) → q ≡ n + w → n - q ≡ 0
      none w q n e = omega arith

  is_minus : below z ≡ true → n ≡ q + w → SumIs z q n
  is_minus s e = record {
    plus = subst (λ (t : Bool). cond t 0 (units z) ≡ sum_grid (q - n)) (sym s) (sym (ap sum_grid (none w q n e) ∙ sum_none));
    minus = subst (λ (t : Bool). cond t (units z) 0 ≡ sum_grid (n - q)) (sym s) (h ∙ ap sum_grid (over w q n e));
  }
    where
      over : (w q n : ℕ) → n ≡ q + w → w ≡ n - q
      over w q n e = omega arith

      none : (w q n : ℕ) → n ≡ q + w → q - n ≡ 0
      none w q n e = omega arith

-- ---- a sum of a / c and b / c, which are u and w units
module _ (a b c u w : ℕ) (C : 0 < c) (A : a * 2 ^ 1074 ≡ u * c) (B : b * 2 ^ 1074 ≡ w * c) where
  both : (a + b) * 2 ^ 1074 ≡ (u + w) * c
  both = add-mul a b (2 ^ 1074) ∙ ap (λ (i : ℕ). i + b * 2 ^ 1074) A ∙ ap (λ (i : ℕ). u * c + i) B ∙ sym (add-mul u w c)

  less : (b - a) * 2 ^ 1074 ≡ (w - u) * c
  less = mul_comm (b - a) (2 ^ 1074) ∙ mul-sub (2 ^ 1074) b a ∙ parts (mul_comm (2 ^ 1074) b ∙ B ∙ mul_comm w c) (mul_comm (2 ^ 1074) a ∙ A ∙ mul_comm u c) ∙ sym (mul-sub c w u) ∙ mul_comm c (w - u)
    where
      parts : {i j k l : ℕ} → i ≡ j → k ≡ l → i - k ≡ j - l
      parts e f = rw (e, f) refl

  -- the order of a and b is that of u and w
  as_units : a * 2 ^ 1074 ≤ b * 2 ^ 1074 → u ≤ w
  as_units h = le_of_mul-le-mul_right {k = c} (le_trans (le_of_eq (sym A)) (le_trans h (le_of_eq B))) C

module _ (a b c u w : ℕ) (C : 0 < c) (A : a * 2 ^ 1074 ≡ u * c) (B : b * 2 ^ 1074 ≡ w * c) where
  rounded : (s : Bool) → T (finite (round binary64 s (a + b) c)) → units (round binary64 s (a + b) c) ≡ sum_grid (u + w)
  rounded s t = round_units s (a + b) c C t ∙ grid_sum (a + b) c (u + w) C (both a b c u w C A B)

  rounded_less : (s : Bool) → T (finite (round binary64 s (b - a) c)) → units (round binary64 s (b - a) c) ≡ sum_grid (w - u)
  rounded_less s t = round_units s (b - a) c C t ∙ grid_sum (b - a) c (w - u) C (less a b c u w C A B)

  same_plus : T (finite (round binary64 false (a + b) c)) → SumIs (round binary64 false (a + b) c) (u + w) (0 + 0)
  same_plus t = is_plus _ (u + w) (u + w) (0 + 0) (rounded false t) (round_sign false (a + b) c C t) (omega arith)

  same_minus : T (finite (round binary64 true (a + b) c)) → SumIs (round binary64 true (a + b) c) (0 + 0) (u + w)
  same_minus t = is_minus _ (u + w) (0 + 0) (u + w) (rounded true t) (round_sign true (a + b) c C t) (omega arith)

  -- b / c less a / c, as q - n or as n - q
  over_plus : (s : Bool) (q n : ℕ) → s ≡ false → u ≤ w → q + u ≡ n + w → T (finite (round binary64 s (b - a) c)) → SumIs (round binary64 s (b - a) c) q n
  over_plus s q n e o i t = is_plus _ (w - u) q n (rounded_less s t) (round_sign s (b - a) c C t ∙ e) (omega arith)

  over_minus : (s : Bool) (q n : ℕ) → s ≡ true → u ≤ w → n + u ≡ q + w → T (finite (round binary64 s (b - a) c)) → SumIs (round binary64 s (b - a) c) q n
  over_minus s q n e o i t = is_minus _ (w - u) q n (rounded_less s t) (round_sign s (b - a) c C t ∙ e) (omega arith)

-- the signs differ
module _ (a b c u w : ℕ) (C : 0 < c) (A : a * 2 ^ 1074 ≡ u * c) (B : b * 2 ^ 1074 ≡ w * c) where
  second_minus : (l : Bool) → ltb a b ≡ l → T (finite (cond l (round binary64 true (b - a) c) (round binary64 false (a - b) c)))
      → SumIs (cond l (round binary64 true (b - a) c) (round binary64 false (a - b) c)) (u + 0) (0 + w)
  second_minus true e t = over_minus a b c u w C A B true (u + 0) (0 + w) refl (as_units a b c u w C A B (mul-le-mul_right (2 ^ 1074) (le_of_lt (ltb-true a b e)))) (omega arith) t
  second_minus false e t = over_plus b a c w u C B A false (u + 0) (0 + w) refl (as_units b a c w u C B A (mul-le-mul_right (2 ^ 1074) (ltb-false a b e))) (omega arith) t

  first_minus : (l k : Bool) → ltb a b ≡ l → ltb b a ≡ k → T (finite (cond l (round binary64 false (b - a) c) (round binary64 k (a - b) c)))
      → SumIs (cond l (round binary64 false (b - a) c) (round binary64 k (a - b) c)) (0 + w) (u + 0)
  first_minus true k e f t = over_plus a b c u w C A B false (0 + w) (u + 0) refl (as_units a b c u w C A B (mul-le-mul_right (2 ^ 1074) (le_of_lt (ltb-true a b e)))) (omega arith) t
  first_minus false true e f t = over_minus b a c w u C B A true (0 + w) (u + 0) refl (as_units b a c w u C B A (mul-le-mul_right (2 ^ 1074) (ltb-false a b e))) (omega arith) t
  first_minus false false e f t =
      let o = as_units a b c u w C A B (mul-le-mul_right (2 ^ 1074) (ltb-false b a f)) in
      let p = as_units b a c w u C B A (mul-le-mul_right (2 ^ 1074) (ltb-false a b e)) in
      over_plus b a c w u C B A false (0 + w) (u + 0) refl p (omega arith) t

module _ (s : Bool) (m : ℕ) (e : ℤ) (t : Bool) (n : ℕ) (d : ℤ) (F : T (fits binary64 (fin s m e))) (G : T (fits binary64 (fin t n d))) where
  first : m * up e * down d * 2 ^ 1074 ≡ units (fin s m e) * (down e * down d)
  first = mul_right_comm (m * up e) (down d) (2 ^ 1074) ∙ ap (λ (i : ℕ). i * down d) (units_exact s m e F) ∙ mul_assoc (units (fin s m e)) (down e) (down d)

  second : n * up d * down e * 2 ^ 1074 ≡ units (fin t n d) * (down e * down d)
  second =
      mul_right_comm (n * up d) (down e) (2 ^ 1074)
      ∙ ap (λ (i : ℕ). i * down e) (units_exact t n d G)
      ∙ mul_assoc (units (fin t n d)) (down d) (down e)
      ∙ ap (λ (i : ℕ). units (fin t n d) * i) (mul_comm (down d) (down e))

pub add_is : (x y : Float) → T (fits binary64 x) → T (fits binary64 y) → T (finite x) → T (finite y) → T (finite (x ⊞ y))
    → SumIs (x ⊞ y) (plus_units x + plus_units y) (minus_units x + minus_units y)
unfolding add sum
add_is nan y F G p q r = absurd p
add_is (inf s) y F G p q r = absurd p
add_is (fin s m e) nan F G p q r = absurd q
add_is (fin s m e) (inf t) F G p q r = absurd q
add_is (fin false m e) (fin false n d) F G p q r =
    same_plus (m * up e * down d) (n * up d * down e) (down e * down d) _ _ (below_c false m e false n d F G) (first false m e false n d F G) (second false m e false n d F G) r
add_is (fin true m e) (fin true n d) F G p q r =
    same_minus (m * up e * down d) (n * up d * down e) (down e * down d) _ _ (below_c true m e true n d F G) (first true m e true n d F G) (second true m e true n d F G) r
add_is (fin false m e) (fin true n d) F G p q r =
    second_minus (m * up e * down d) (n * up d * down e) (down e * down d) _ _ (below_c false m e true n d F G) (first false m e true n d F G) (second false m e true n d F G)
    (ltb (m * up e * down d) (n * up d * down e)) refl r
add_is (fin true m e) (fin false n d) F G p q r =
    first_minus (m * up e * down d) (n * up d * down e) (down e * down d) _ _ (below_c true m e false n d F G) (first true m e false n d F G) (second true m e false n d F G)
    (ltb (m * up e * down d) (n * up d * down e)) (ltb (n * up d * down e) (m * up e * down d)) refl refl r

pub sub_is : (x y : Float) → T (fits binary64 x) → T (fits binary64 y) → T (finite x) → T (finite y) → T (finite (x ⊟ y))
    → SumIs (x ⊟ y) (plus_units x + minus_units y) (minus_units x + plus_units y)
unfolding sub neg
sub_is x nan F G p q r = absurd q
sub_is x (inf t) F G p q r = absurd q
sub_is x (fin true n d) F G p q r = add_is x (fin false n d) F (neg-fits binary64 (fin true n d) G) p q r
sub_is x (fin false n d) F G p q r = add_is x (fin true n d) F (neg-fits binary64 (fin false n d) G) p q r

-- ---- a product
pub record ProductIs (z x y : Float) : Type 0 where
  pub plus : plus_units z ≡ product_grid (plus_units x * plus_units y + minus_units x * minus_units y)
  pub minus : minus_units z ≡ product_grid (plus_units x * minus_units y + minus_units x * plus_units y)

pub mul_is : (x y : Float) → T (fits binary64 x) → T (fits binary64 y) → T (finite x) → T (finite y) → T (finite (x ⊠ y)) → ProductIs (x ⊠ y) x y
unfolding mul
mul_is nan y F G p q r = absurd p
mul_is (inf s) y F G p q r = absurd p
mul_is (fin s m e) nan F G p q r = absurd q
mul_is (fin s m e) (inf t) F G p q r = absurd q
mul_is (fin s m e) (fin t n d) F G p q r =
    let a = m * up e * (n * up d) in
    let c = down e * down d in
    let C = below_c s m e t n d F G in
    let u = units (fin s m e) in
    let w = units (fin t n d) in
    let z = round binary64 (unlike s t) a c in
    let h : units z ≡ product_grid (u * w) = round_units (unlike s t) a c C r ∙ grid_product a c (u * w) C (product s m e t n d F G) in
    record {
      plus = subst (λ (k : Bool). cond k 0 (units z) ≡ product_grid (cond s 0 u * cond t 0 w + cond s u 0 * cond t w 0)) (sym (round_sign (unlike s t) a c C r)) (on_plus s t (units z) u w h);
      minus = subst (λ (k : Bool). cond k (units z) 0 ≡ product_grid (cond s 0 u * cond t w 0 + cond s u 0 * cond t 0 w)) (sym (round_sign (unlike s t) a c C r)) (on_minus s t (units z) u w h);
    }
  where
    all : (u w : ℕ) {n : ℕ} (z : ℕ) → z ≡ product_grid (u * w) → u * w ≡ n → z ≡ product_grid n
    all u w z h e = h ∙ ap product_grid e

    nothing : {n : ℕ} → 0 ≡ n → 0 ≡ product_grid n
    nothing e = sym product_none ∙ ap product_grid e

    on_plus : (s t : Bool) (z u w : ℕ) → z ≡ product_grid (u * w) → cond (unlike s t) 0 z ≡ product_grid (cond s 0 u * cond t 0 w + cond s u 0 * cond t w 0)
    on_plus true true z u w h = all u w z h (omega arith)
    on_plus true false z u w h = nothing (omega arith)
    on_plus false true z u w h = nothing (omega arith)
    on_plus false false z u w h = all u w z h (omega arith)

    on_minus : (s t : Bool) (z u w : ℕ) → z ≡ product_grid (u * w) → cond (unlike s t) z 0 ≡ product_grid (cond s 0 u * cond t w 0 + cond s u 0 * cond t 0 w)
    on_minus true true z u w h = nothing (omega arith)
    on_minus true false z u w h = all u w z h (omega arith)
    on_minus false true z u w h = all u w z h (omega arith)
    on_minus false false z u w h = nothing (omega arith)
