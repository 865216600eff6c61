-- Differences of numbers without a sign, and how large they are: sums, products, squares. Nothing here is about floats.
use Rattle.std.specs.Prelude.{◌≡◌, ℕ, ◌+◌, ◌*◌, ◌≤◌}
use Rattle.std.proofs.Common.{sym, subst, ⊎_elim, arith}
use Rattle.std.proofs.Math.Nat.{le_dest}
use Rattle.base.specs.common.laws.Decide.{lt_or_ge}
use Rattle.root.specs.whole_root.Near.{sq}
use Rattle.auditing.specs.total.Total.{apart}

-- a - b is at most e either way
pub record Close (a b e : ℕ) : Type 0 where
  pub most : a ≤ b + e
  pub least : b ≤ a + e

pub close_apart : (a b : ℕ) → Close a b (apart a b)
close_apart a b = record { most = omega arith; least = omega arith }

pub apart_close : (a b e : ℕ) → Close a b e → apart a b ≤ e
apart_close a b e h = let m = h.most in let l = h.least in omega arith

-- ---- products
cross : (a b c d : ℕ) → a ≤ b → c ≤ d → a * d + b * c ≤ a * c + b * d
cross a b c d h k =
    let i = le_dest h in
    let j = le_dest k in
    subst (λ (x : ℕ). a * d + x * c ≤ a * c + x * d) i.1 (subst (λ (x : ℕ). a * x + (a + i.0) * c ≤ a * c + (a + i.0) * x) j.1 (plain a i.0 c j.0))
  where
    plain : (a i c j : ℕ) → a * (c + j) + (a + i) * c ≤ a * c + (a + i) * (c + j)
    plain a i c j = omega arith

-- (a - b) (c - d)
pub close_product : (a b e c d f : ℕ) → Close a b e → Close c d f → Close (a * c + b * d) (a * d + b * c) (e * f)
close_product a b e c d f h k =
    let w = cross a (b + e) d (c + f) h.most k.least in
    let x = cross b (a + e) c (d + f) h.least k.most in
    let y = cross a (b + e) c (d + f) h.most k.most in
    let z = cross b (a + e) d (c + f) h.least k.least in
    record { most = half_most a b e c d f w x; least = half_least a b e c d f y z }
  where
    half_most : (a b e c d f : ℕ) → a * (c + f) + (b + e) * d ≤ a * d + (b + e) * (c + f) → b * (d + f) + (a + e) * c ≤ b * c + (a + e) * (d + f) → a * c + b * d ≤ a * d + b * c + e * f
    half_most a b e c d f h k = omega arith

    half_least : (a b e c d f : ℕ) → a * (d + f) + (b + e) * c ≤ a * c + (b + e) * (d + f) → b * (c + f) + (a + e) * d ≤ b * d + (a + e) * (c + f) → a * d + b * c ≤ a * c + b * d + e * f
    half_least a b e c d f h k = omega arith

-- p - m for q - n, and f - g for h - i: the product of the two is off by at most this
pub product_off : (p m q n e f g h i e' D M : ℕ) → Close (p + n) (m + q) e → Close (f + i) (g + h) e' → Close q n D → Close f g M
    → Close (p * f + m * g + (q * i + n * h)) (p * g + m * f + (q * h + n * i)) (e * M + D * e')
product_off p m q n e f g h i e' D M x y d s =
    let u = close_product (p + n) (m + q) e f g M x s in
    let w = close_product q n D (f + i) (g + h) e' d y in
    record { most = up p m q n f g h i (e * M) (D * e') u.most w.most; least = back p m q n f g h i (e * M) (D * e') u.least w.least }
  where
    up : (p m q n f g h i u w : ℕ) → (p + n) * f + (m + q) * g ≤ (p + n) * g + (m + q) * f + u → q * (f + i) + n * (g + h) ≤ q * (g + h) + n * (f + i) + w
        → p * f + m * g + (q * i + n * h) ≤ p * g + m * f + (q * h + n * i) + (u + w)
    up p m q n f g h i u w x y = omega arith

    back : (p m q n f g h i u w : ℕ) → (p + n) * g + (m + q) * f ≤ (p + n) * f + (m + q) * g + u → q * (g + h) + n * (f + i) ≤ q * (f + i) + n * (g + h) + w
        → p * g + m * f + (q * h + n * i) ≤ p * f + m * g + (q * i + n * h) + (u + w)
    back p m q n f g h i u w x y = omega arith

-- ---- squares
pub square_is : (a b : ℕ) → sq (apart a b) + 2 * (a * b) ≡ sq a + sq b
square_is a b = ⊎_elim (λ h. less a b (omega arith)) (λ h. more a b h) (lt_or_ge a b)
  where
    plain : (a k : ℕ) → sq k + 2 * (a * (a + k)) ≡ sq a + sq (a + k)
    plain a k = omega arith

    turned : (a k : ℕ) → sq k + 2 * ((a + k) * a) ≡ sq (a + k) + sq a
    turned a k = omega arith

    less : (a b : ℕ) → a ≤ b → sq (apart a b) + 2 * (a * b) ≡ sq a + sq b
    less a b h = let k : b ≡ a + apart a b = omega arith in subst (λ (x : ℕ). sq (apart a b) + 2 * (a * x) ≡ sq a + sq x) (sym k) (plain a (apart a b))

    more : (a b : ℕ) → b ≤ a → sq (apart a b) + 2 * (a * b) ≡ sq a + sq b
    more a b h = let k : a ≡ b + apart a b = omega arith in subst (λ (x : ℕ). sq (apart a b) + 2 * (x * b) ≡ sq x + sq b) (sym k) (turned b (apart a b))

-- |v - s|^2 - |v - o|^2 is (o - s) ((v - s) + (v - o)), with v, s, o as v - w, s - t, o - u
pub squares_apart : (v w s t o u : ℕ)
    → sq (apart (v + t) (w + s)) + ((o + t) * (w + s + (w + o)) + (u + s) * (v + t + (v + u)))
    ≡ sq (apart (v + u) (w + o)) + ((o + t) * (v + t + (v + u)) + (u + s) * (w + s + (w + o)))
squares_apart v w s t o u = go v w s t o u (sq (apart (v + t) (w + s))) (sq (apart (v + u) (w + o))) (square_is (v + t) (w + s)) (square_is (v + u) (w + o))
  where
    go : (v w s t o u x y : ℕ) → x + 2 * ((v + t) * (w + s)) ≡ sq (v + t) + sq (w + s) → y + 2 * ((v + u) * (w + o)) ≡ sq (v + u) + sq (w + o)
        → x + ((o + t) * (w + s + (w + o)) + (u + s) * (v + t + (v + u))) ≡ y + ((o + t) * (v + t + (v + u)) + (u + s) * (w + s + (w + o)))
    go v w s t o u x y h k = omega arith
