-- One operation on values of binary64, by their parts: a sum or a difference is off by at most one part in 2 ^ 53 of the exact one, a product by that or by half a unit.
use Rattle.std.specs.Prelude.{◌≡◌, refl, Bool, true, false, cond, ℕ, ◌+◌, ◌-◌, ◌*◌, ◌^◌, ◌≤◌, ◌<◌, T, ltb, ℤ, Float}
use Rattle.std.proofs.Common.{sym, ap, ◌∙◌, subst, le_trans, le_of_eq, le_of_lt, le_of_mul-le-mul_right, mul-le-mul_right, mul_right_comm, mul_assoc, mul_comm, mul-pos, add-mul, arith, ltb-true, ltb-false}
use Rattle.std.proofs.Math.Nat.{mul-sub, mul-mul-mul_comm}
use Rattle.std.specs.Float.{nan, inf, fin, binary64}
use Rattle.std.specs.Float.Ieee.{up, down, unlike, fits, round, neg, sum, add, sub, mul}
use Rattle.std.specs.Float.Ieee.Fits.{down_pos, neg-fits}
use Rattle.std.specs.Float.Ieee.Scale.{finite}
use Rattle.base.specs.common.Binary64.{◌⊞◌, ◌⊟◌, ◌⊠◌}
use Rattle.root.specs.Root.{units}
use Rattle.ring_area.specs.Area.{below}
use Rattle.auditing.specs.total.Total.{apart}
use Rattle.audit_truth.specs.Exact.{plus_units, minus_units}
use Rattle.audit_truth.specs.laws.Close.{Close}
use Rattle.audit_truth.specs.laws.Roundings.{units_exact, round_sign, round_whole, round_product}

-- z for q - n
pub record Rounded (z : Float) (q n : ℕ) : Type 0 where
  pub off : ℕ
  pub near : Close (plus_units z + n) (minus_units z + q) off
  pub few : off * 2 ^ 53 ≤ apart q n

module _ (z : Float) (w q n : ℕ) (h : Close (units z * 2 ^ 53) (w * 2 ^ 53) w) where
  few_of : (u q n : ℕ) → Close (u * 2 ^ 53) (w * 2 ^ 53) w → w ≡ apart q n → apart u w * 2 ^ 53 ≤ apart q n
  few_of u q n k e = let m = k.most in let l = k.least in le_trans (go u m l) (le_of_eq e)
    where
      go : (u : ℕ) → u * 2 ^ 53 ≤ w * 2 ^ 53 + w → w * 2 ^ 53 ≤ u * 2 ^ 53 + w → apart u w * 2 ^ 53 ≤ w
      go u a b = omega arith

  rounded_plus : below z ≡ false → q ≡ n + w → Rounded z q n
  rounded_plus s e = record {
    off = apart (units z) w;
    near = subst (λ (t : Bool). Close (cond t 0 (units z) + n) (cond t (units z) 0 + q) (apart (units z) w)) (sym s) (plain (units z));
    few = few_of (units z) q n h (omega arith);
  }
    where
      plain : (u : ℕ) → Close (u + n) (0 + q) (apart u w)
      plain u = record { most = omega arith; least = omega arith }

  rounded_minus : below z ≡ true → n ≡ q + w → Rounded z q n
  rounded_minus s e = record {
    off = apart (units z) w;
    near = subst (λ (t : Bool). Close (cond t 0 (units z) + n) (cond t (units z) 0 + q) (apart (units z) w)) (sym s) (plain (units z));
    few = few_of (units z) q n h (omega arith);
  }
    where
      plain : (u : ℕ) → Close (0 + n) (u + q) (apart u w)
      plain u = record { most = omega arith; least = omega arith }

-- ---- a sum of a / c and b / c, which are u and w units
sub_mul : (x y k : ℕ) → (x - y) * k ≡ x * k - y * k
sub_mul x y k = mul_comm (x - y) k ∙ mul-sub k x y ∙ ap (λ (i : ℕ). i - k * y) (mul_comm k x) ∙ ap (λ (i : ℕ). x * k - i) (mul_comm k y)

module _ (a b c u w : ℕ) (C : 0 < c) (A : a * 2 ^ 1074 ≡ u * c) (B : b * 2 ^ 1074 ≡ w * c) where
  both : (a + b) * 2 ^ 1074 ≡ (u + w) * c
  both = add-mul a b (2 ^ 1074) ∙ ap (λ (i : ℕ). i + b * 2 ^ 1074) A ∙ ap (λ (i : ℕ). u * c + i) B ∙ sym (add-mul u w c)

  less : (b - a) * 2 ^ 1074 ≡ (w - u) * c
  less = sub_mul b a (2 ^ 1074) ∙ ap (λ (i : ℕ). i - a * 2 ^ 1074) B ∙ ap (λ (i : ℕ). w * c - i) A ∙ sym (sub_mul w u c)

  order : a ≤ b → u ≤ w
  order h = le_of_mul-le-mul_right {k = c} (le_trans (le_of_eq (sym A)) (le_trans (mul-le-mul_right (2 ^ 1074) h) (le_of_eq B))) C

module _ (a b c u w : ℕ) (C : 0 < c) (A : a * 2 ^ 1074 ≡ u * c) (B : b * 2 ^ 1074 ≡ w * c) where
  same_plus : T (finite (round binary64 false (a + b) c)) → Rounded (round binary64 false (a + b) c) (u + w) (0 + 0)
  same_plus t = rounded_plus _ (u + w) (u + w) (0 + 0) (round_whole false (a + b) c C t (u + w) (both a b c u w C A B)) (round_sign false (a + b) c C t) (omega arith)

  same_minus : T (finite (round binary64 true (a + b) c)) → Rounded (round binary64 true (a + b) c) (0 + 0) (u + w)
  same_minus t = rounded_minus _ (u + w) (0 + 0) (u + w) (round_whole true (a + b) c C t (u + w) (both a b c u w C A B)) (round_sign true (a + b) c C t) (omega arith)

  -- b / c less a / c, as q - n or as n - q
  over_plus : (s : Bool) (q n : ℕ) → s ≡ false → a ≤ b → q + u ≡ n + w → T (finite (round binary64 s (b - a) c)) → Rounded (round binary64 s (b - a) c) q n
  over_plus s q n e h i t =
      let o = order a b c u w C A B h in
      rounded_plus _ (w - u) q n (round_whole s (b - a) c C t (w - u) (less a b c u w C A B)) (round_sign s (b - a) c C t ∙ e) (omega arith)

  over_minus : (s : Bool) (q n : ℕ) → s ≡ true → a ≤ b → n + u ≡ q + w → T (finite (round binary64 s (b - a) c)) → Rounded (round binary64 s (b - a) c) q n
  over_minus s q n e h i t =
      let o = order a b c u w C A B h in
      rounded_minus _ (w - u) q n (round_whole s (b - a) c C t (w - u) (less a b c u w C A B)) (round_sign s (b - a) c C t ∙ e) (omega arith)

-- the signs differ
module _ (a b c u w : ℕ) (C : 0 < c) (A : a * 2 ^ 1074 ≡ u * c) (B : b * 2 ^ 1074 ≡ w * c) where
  second_minus : (l : Bool) → ltb a b ≡ l → T (finite (cond l (round binary64 true (b - a) c) (round binary64 false (a - b) c)))
      → Rounded (cond l (round binary64 true (b - a) c) (round binary64 false (a - b) c)) (u + 0) (0 + w)
  second_minus true e t = over_minus a b c u w C A B true (u + 0) (0 + w) refl (le_of_lt (ltb-true a b e)) (omega arith) t
  second_minus false e t = over_plus b a c w u C B A false (u + 0) (0 + w) refl (ltb-false a b e) (omega arith) t

  first_minus : (l k : Bool) → ltb a b ≡ l → ltb b a ≡ k → T (finite (cond l (round binary64 false (b - a) c) (round binary64 k (a - b) c)))
      → Rounded (cond l (round binary64 false (b - a) c) (round binary64 k (a - b) c)) (0 + w) (u + 0)
  first_minus true k e f t = over_plus a b c u w C A B false (0 + w) (u + 0) refl (le_of_lt (ltb-true a b e)) (omega arith) t
  first_minus false true e f t = over_minus b a c w u C B A true (0 + w) (u + 0) refl (ltb-false a b e) (omega arith) t
  first_minus false false e f t =
      let o = order a b c u w C A B (ltb-false b a f) in
      let p = order b a c w u C B A (ltb-false a b e) in
      over_plus b a c w u C B A false (0 + w) (u + 0) refl (ltb-false a b e) (omega arith) t

module _ (s : Bool) (m : ℕ) (e : ℤ) (t : Bool) (n : ℕ) (d : ℤ) (F : T (fits binary64 (fin s m e))) (G : T (fits binary64 (fin t n d))) where
  first : m * up e * down d * 2 ^ 1074 ≡ units (fin s m e) * (down e * down d)
  first = mul_right_comm (m * up e) (down d) (2 ^ 1074) ∙ ap (λ (i : ℕ). i * down d) (units_exact s m e F) ∙ mul_assoc (units (fin s m e)) (down e) (down d)

  second : n * up d * down e * 2 ^ 1074 ≡ units (fin t n d) * (down e * down d)
  second =
      mul_right_comm (n * up d) (down e) (2 ^ 1074)
      ∙ ap (λ (i : ℕ). i * down e) (units_exact t n d G)
      ∙ mul_assoc (units (fin t n d)) (down d) (down e)
      ∙ ap (λ (i : ℕ). units (fin t n d) * i) (mul_comm (down d) (down e))

  pub product : m * up e * (n * up d) * 2 ^ 1074 * 2 ^ 1074 ≡ units (fin s m e) * units (fin t n d) * (down e * down d)
  product =
      mul_assoc (m * up e * (n * up d)) (2 ^ 1074) (2 ^ 1074)
      ∙ mul-mul-mul_comm (m * up e) (n * up d) (2 ^ 1074) (2 ^ 1074)
      ∙ ap (λ (i : ℕ). i * (n * up d * 2 ^ 1074)) (units_exact s m e F)
      ∙ ap (λ (i : ℕ). units (fin s m e) * down e * i) (units_exact t n d G)
      ∙ mul-mul-mul_comm (units (fin s m e)) (down e) (units (fin t n d)) (down d)

  pub below_c : 0 < down e * down d
  below_c = mul-pos (down_pos e) (down_pos d)

pub add_rounded : (x y : Float) → T (fits binary64 x) → T (fits binary64 y) → T (finite x) → T (finite y) → T (finite (x ⊞ y))
    → Rounded (x ⊞ y) (plus_units x + plus_units y) (minus_units x + minus_units y)
unfolding add sum
add_rounded nan y F G p q r = absurd p
add_rounded (inf s) y F G p q r = absurd p
add_rounded (fin s m e) nan F G p q r = absurd q
add_rounded (fin s m e) (inf t) F G p q r = absurd q
add_rounded (fin false m e) (fin false n d) F G p q r =
    same_plus (m * up e * down d) (n * up d * down e) (down e * down d) _ _ (below_c false m e false n d F G) (first false m e false n d F G) (second false m e false n d F G) r
add_rounded (fin true m e) (fin true n d) F G p q r =
    same_minus (m * up e * down d) (n * up d * down e) (down e * down d) _ _ (below_c true m e true n d F G) (first true m e true n d F G) (second true m e true n d F G) r
add_rounded (fin false m e) (fin true n d) F G p q r =
    second_minus (m * up e * down d) (n * up d * down e) (down e * down d) _ _ (below_c false m e true n d F G) (first false m e true n d F G) (second false m e true n d F G)
    (ltb (m * up e * down d) (n * up d * down e)) refl r
add_rounded (fin true m e) (fin false n d) F G p q r =
    first_minus (m * up e * down d) (n * up d * down e) (down e * down d) _ _ (below_c true m e false n d F G) (first true m e false n d F G) (second true m e false n d F G)
    (ltb (m * up e * down d) (n * up d * down e)) (ltb (n * up d * down e) (m * up e * down d)) refl refl r

pub sub_rounded : (x y : Float) → T (fits binary64 x) → T (fits binary64 y) → T (finite x) → T (finite y) → T (finite (x ⊟ y))
    → Rounded (x ⊟ y) (plus_units x + minus_units y) (minus_units x + plus_units y)
unfolding sub neg
sub_rounded x nan F G p q r = absurd q
sub_rounded x (inf t) F G p q r = absurd q
sub_rounded x (fin true n d) F G p q r = add_rounded x (fin false n d) F (neg-fits binary64 (fin true n d) G) p q r
sub_rounded x (fin false n d) F G p q r = add_rounded x (fin true n d) F (neg-fits binary64 (fin false n d) G) p q r

-- ---- a product, in units of 2 ^ -2148
pub record RoundedProduct (z x y : Float) : Type 0 where
  pub off : ℕ
  pub near : Close (plus_units z * 2 ^ 1074 + (plus_units x * minus_units y + minus_units x * plus_units y)) (minus_units z * 2 ^ 1074 + (plus_units x * plus_units y + minus_units x * minus_units y)) off
  pub few : off * 2 ^ 54 ≤ 2 * (units x * units y) + 2 ^ 53 * 2 ^ 1074

-- u and w with their signs, and z for their product
module _ (z p : ℕ) (few : ℕ) (h : Close (z * 2 ^ 54) (p * 2 ^ 54) few) where
  off_few : apart z p * 2 ^ 54 ≤ few
  off_few = let m = h.most in let l = h.least in go z p few m l
    where
      go : (z p few : ℕ) → z * 2 ^ 54 ≤ p * 2 ^ 54 + few → p * 2 ^ 54 ≤ z * 2 ^ 54 + few → apart z p * 2 ^ 54 ≤ few
      go z p few m l = omega arith

pub mul_rounded : (x y : Float) → T (fits binary64 x) → T (fits binary64 y) → T (finite x) → T (finite y) → T (finite (x ⊠ y)) → RoundedProduct (x ⊠ y) x y
unfolding mul
mul_rounded nan y F G p q r = absurd p
mul_rounded (inf s) y F G p q r = absurd p
mul_rounded (fin s m e) nan F G p q r = absurd q
mul_rounded (fin s m e) (inf t) F G p q r = absurd q
mul_rounded (fin s m e) (fin t n d) F G p q r =
    let a = m * up e * (n * up d) in
    let c = down e * down d in
    let C = below_c s m e t n d F G in
    let u = units (fin s m e) in
    let w = units (fin t n d) in
    let z = round binary64 (unlike s t) a c in
    record {
      off = apart (units z * 2 ^ 1074) (u * w);
      near = subst
          (λ (k : Bool). Close (cond k 0 (units z) * 2 ^ 1074 + (cond s 0 u * cond t w 0 + cond s u 0 * cond t 0 w))
          (cond k (units z) 0 * 2 ^ 1074 + (cond s 0 u * cond t 0 w + cond s u 0 * cond t w 0)) (apart (units z * 2 ^ 1074) (u * w)))
          (sym (round_sign (unlike s t) a c C r)) (go s t (units z) u w (2 ^ 1074));
      few = off_few (units z * 2 ^ 1074) (u * w) (2 * (u * w) + 2 ^ 53 * 2 ^ 1074) (round_product (unlike s t) a c C r (u * w) (product s m e t n d F G));
    }
  where
    go : (s t : Bool) (z u w i : ℕ)
        → Close (cond (unlike s t) 0 z * i + (cond s 0 u * cond t w 0 + cond s u 0 * cond t 0 w))
        (cond (unlike s t) z 0 * i + (cond s 0 u * cond t 0 w + cond s u 0 * cond t w 0)) (apart (z * i) (u * w))
    go true true z u w i = record { most = omega arith; least = omega arith }
    go true false z u w i = record { most = omega arith; least = omega arith }
    go false true z u w i = record { most = omega arith; least = omega arith }
    go false false z u w i = record { most = omega arith; least = omega arith }
