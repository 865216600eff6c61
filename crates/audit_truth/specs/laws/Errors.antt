-- How errors of one part in 2 ^ 53 add up over one coordinate of the left side. Nothing here is about floats.
use Rattle.std.specs.Prelude.{◌≡◌, ℕ, ◌+◌, ◌*◌, ◌^◌, ◌≤◌}
use Rattle.std.proofs.Common.{sym, le_trans, le_of_eq, mul-le-mul, mul-le-mul_left, mul-le-mul_right, arith}
use Rattle.auditing.specs.total.Total.{apart}
use Rattle.audit_truth.specs.laws.Close.{Close, close_apart, apart_close, close_product, product_off}

-- ---- the sum of two differences
-- f - g for h - i: at most 33 sixteenths of one part in 2 ^ 53 of m, and h - i is at most m
pub record SumOff (f g h i m : ℕ) : Type 0 where
  pub off : ℕ
  pub near : Close (f + i) (g + h) off
  pub few : off * (16 * 2 ^ 53) ≤ 33 * m
  pub most : Close h i m

-- a - a' for h - h', b - b' for i - i', and f - g for the sum of both
pub sum_off : (a a' h h' ea b b' i i' eb f g e : ℕ) → Close (a + h') (a' + h) ea → ea * 2 ^ 53 ≤ apart h h' → Close (b + i') (b' + i) eb → eb * 2 ^ 53 ≤ apart i i'
    → Close (f + (a' + b')) (g + (a + b)) e → e * 2 ^ 53 ≤ apart (a + b) (a' + b') → SumOff f g (h + i) (h' + i') (apart h h' + apart i i')
sum_off a a' h h' ea b b' i i' eb f g e x A y B z E =
    let s : Close (a + b) (a' + b') (apart h h' + apart i i' + ea + eb) = size a a' h h' ea b b' i i' eb (apart h h') (apart i i') x y (close_apart h h') (close_apart i i') in
    record {
      off = e + ea + eb;
      near = record { most = up a a' h h' ea b b' i i' eb f g e x.most y.most z.most; least = up a' a h' h ea b' b i' i eb g f e x.least y.least z.least };
      few = few e ea eb (apart h h') (apart i i') A B (le_trans E (apart_close (a + b) (a' + b') _ s));
      most = both h h' i i' (apart h h') (apart i i') (close_apart h h') (close_apart i i');
    }
  where
    both : (h h' i i' A B : ℕ) → Close h h' A → Close i i' B → Close (h + i) (h' + i') (A + B)
    both h h' i i' A B x y =
        let x₁ = x.most in
        let x₂ = x.least in
        let y₁ = y.most in
        let y₂ = y.least in
        record { most = omega arith; least = omega arith }

    size : (a a' h h' ea b b' i i' eb A B : ℕ) → Close (a + h') (a' + h) ea → Close (b + i') (b' + i) eb → Close h h' A → Close i i' B
        → Close (a + b) (a' + b') (A + B + ea + eb)
    size a a' h h' ea b b' i i' eb A B x y u w =
        let x₁ = x.most in
        let x₂ = x.least in
        let y₁ = y.most in
        let y₂ = y.least in
        let u₁ = u.most in
        let u₂ = u.least in
        let w₁ = w.most in
        let w₂ = w.least in
        record { most = omega arith; least = omega arith }

    up : (a a' h h' ea b b' i i' eb f g e : ℕ) → a + h' ≤ a' + h + ea → b + i' ≤ b' + i + eb → f + (a' + b') ≤ g + (a + b) + e
        → f + (h' + i') ≤ g + (h + i) + (e + ea + eb)
    up a a' h h' ea b b' i i' eb f g e x y z = omega arith

    few : (e ea eb A B : ℕ) → ea * 2 ^ 53 ≤ A → eb * 2 ^ 53 ≤ B → e * 2 ^ 53 ≤ A + B + ea + eb → (e + ea + eb) * (16 * 2 ^ 53) ≤ 33 * (A + B)
    few e ea eb A B x y z = omega arith

pub sum_size : {f g h i m : ℕ} (s : SumOff f g h i m) → apart f g ≤ m + s.off
sum_size {f} {g} {h} {i} {m} s = apart_close f g (m + s.off) (record { most = go f g h i m s.off s.near.most s.most.most; least = go g f i h m s.off s.near.least s.most.least })
  where
    go : (f g h i m e : ℕ) → f + i ≤ g + h + e → h ≤ i + m → f ≤ g + (m + e)
    go f g h i m e x y = omega arith

-- ---- one coordinate: p - m for q - n, at most d, times f - g for h - i, at most w; z - z' is the rounded product, u the unit
pub record CoordinateOff (z z' q n h i d w u : ℕ) : Type 0 where
  pub off : ℕ
  pub near : Close (z * u + (q * i + n * h)) (z' * u + (q * h + n * i)) off
  pub few : off * (16 * 2 ^ 53) ≤ 67 * (d * w) + 8 * 2 ^ 53 * u
  pub most : Close (q * h + n * i) (q * i + n * h) (d * w)

module _ (p m q n e₁ d f g h i w z z' u e₃ P S : ℕ) (x : Close (p + n) (m + q) e₁) (X : e₁ * 2 ^ 53 ≤ d) (D : Close q n d) (s : SumOff f g h i w) (F : Close f g S)
    (large : P ≤ d + e₁) (wide : S ≤ w + s.off) (y : Close (z * u + (p * g + m * f)) (z' * u + (p * f + m * g)) e₃) (Y : e₃ * 2 ^ 54 ≤ 2 * (P * S) + 2 ^ 53 * u) where
  abbrev e₂ : ℕ
  e₂ = s.off

  pub coordinate_off : CoordinateOff z z' q n h i d w u
  coordinate_off =
      let t = product_off p m q n e₁ f g h i e₂ d S x s.near D F in
      record {
        off = e₃ + (e₁ * S + d * e₂);
        near = record {
          most = up (z * u) (z' * u) (p * g + m * f) (p * f + m * g) (q * i + n * h) (q * h + n * i) e₃ (e₁ * S + d * e₂) y.most t.most;
          least = up (z' * u) (z * u) (p * f + m * g) (p * g + m * f) (q * h + n * i) (q * i + n * h) e₃ (e₁ * S + d * e₂) y.least t.least;
        };
        few = few (P * S) (d * S) (d * w) e₃ (e₁ * S) (d * e₂) u Y parts across along squared;
        most = close_product q n d h i w D s.most;
      }
    where
      up : (a b c k f g e r : ℕ) → a + c ≤ b + k + e → k + f ≤ c + g + r → a + f ≤ b + g + (e + r)
      up a b c k f g e r x y = omega arith

      parts : e₁ * S * 2 ^ 53 ≤ d * S
      parts = le_trans (le_of_eq (turn e₁ S)) (mul-le-mul_right S X)
        where
          turn : (a b : ℕ) → a * b * 2 ^ 53 ≡ a * 2 ^ 53 * b
          turn a b = omega arith

      along : d * e₂ * (16 * 2 ^ 53) ≤ 33 * (d * w)
      along = le_trans (le_of_eq (turn d e₂)) (le_trans (mul-le-mul_left d s.few) (le_of_eq (back d w)))
        where
          turn : (a b : ℕ) → a * b * (16 * 2 ^ 53) ≡ a * (b * (16 * 2 ^ 53))
          turn a b = omega arith

          back : (a b : ℕ) → a * (33 * b) ≡ 33 * (a * b)
          back a b = omega arith

      low : S * 64 ≤ w * 65
      low = slack S w e₂ wide s.few
        where
          slack : (S w e : ℕ) → S ≤ w + e → e * (16 * 2 ^ 53) ≤ 33 * w → S * 64 ≤ w * 65
          slack S w e a b = omega arith

      high : P * 64 ≤ d * 65
      high = slack P d e₁ large X
        where
          slack : (P d e : ℕ) → P ≤ d + e → e * 2 ^ 53 ≤ d → P * 64 ≤ d * 65
          slack P d e a b = omega arith

      across : d * S * 64 ≤ d * w * 65
      across = le_trans (le_of_eq (turn d S 64)) (le_trans (mul-le-mul_left d low) (le_of_eq (sym (turn d w 65))))
        where
          turn : (a b c : ℕ) → a * b * c ≡ a * (b * c)
          turn a b c = omega arith

      squared : P * S * 4096 ≤ d * w * 4225
      squared = le_trans (le_of_eq (turn P S)) (le_trans (mul-le-mul high low) (le_of_eq (back d w)))
        where
          turn : (a b : ℕ) → a * b * 4096 ≡ a * 64 * (b * 64)
          turn a b = omega arith

          back : (a b : ℕ) → a * 65 * (b * 65) ≡ a * b * 4225
          back a b = omega arith

      few : (ps ds dw e₃ es de u : ℕ) → e₃ * 2 ^ 54 ≤ 2 * ps + 2 ^ 53 * u → es * 2 ^ 53 ≤ ds → ds * 64 ≤ dw * 65 → de * (16 * 2 ^ 53) ≤ 33 * dw → ps * 4096 ≤ dw * 4225
          → (e₃ + (es + de)) * (16 * 2 ^ 53) ≤ 67 * dw + 8 * 2 ^ 53 * u
      few ps ds dw e₃ es de u a b c k l = omega arith
