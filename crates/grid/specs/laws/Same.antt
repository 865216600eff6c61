-- On coordinates of the profile the areas and determinants of places moved up are those of the plane, with the sign turned: both are sums of
-- products, and multiplied out they hold the same.
use Rattle.std.specs.Prelude.{◌≡◌, refl, cond, List, [], ◌∷◌, ℕ, ◌+◌, ◌*◌, ◌-◌, suc, ◌≤◌, ltb, ℤ, pos, negsuc, nat_abs, ◌+ℤ◌, ◌-ℤ◌, ◌*ℤ◌}
use Rattle.std.proofs.Math.Path.{sym}
use Rattle.std.proofs.Common.{ap, ◌∙◌, leb-true, le-ltb}
use native.Mathlib.Omega.{arith}
use Rattle.grid.specs.Plane.{GridPoint, Within, cross_of, squared_to, in_circle, turns_left, strictly_inside, rise_of, goes_up}
use Rattle.grid.specs.Raised.{up, raised_of, area_of, lift_of, level_of, above}
use Rattle.grid.specs.declared.Raised.{Raised}
use Rattle.grid.specs.declared.Signed.{Signed}
use Rattle.grid.specs.laws.Pairs.{Is, is_add, is_mul, is_minus_of, is_same, is_dif, is_below, is_above}
use Rattle.grid.specs.laws.Ring.{Ex, va, add, mul, solve}

-- ---- a coordinate moved up
low_below : (n : ℕ) → Within (negsuc n) → n ≤ 8191
low_below n w = leb-true n 8191 w.above

sum_below : (n : ℕ) → n ≤ 8191 → negsuc n +ℤ pos 8192 ≡ pos (8192 - suc n)
sum_below n h = ap (λ t. cond t (negsuc (suc n - suc 8192)) (pos (8192 - suc n))) (le-ltb 8192 (suc n) (omega arith))

up_below : (n : ℕ) → n ≤ 8191 → up (negsuc n) ≡ 8192 - suc n
unfolding up
up_below n h = ap nat_abs (sum_below n h)

-- it is no longer below 0
pub up_pos : (v : ℤ) → Within v → v +ℤ pos 8192 ≡ pos (up v)
unfolding up
up_pos (pos n) w = refl
up_pos (negsuc n) w = sum_below n (low_below n w) ∙ ap pos (sym (up_below n (low_below n w)))

pub up_low : (v : ℤ) → Within v → up v ≤ 16384
unfolding up
up_low (pos n) w = omega (arith, leb-true n 8192 w.below)
up_low (negsuc n) w = omega (arith, up_below n (low_below n w))

pub up_is : (v : ℤ) → Within v → Is (up v) 8192 v
unfolding up
up_is (pos n) w = omega arith
up_is (negsuc n) w = omega (arith, up_below n (low_below n w), low_below n w)

-- ---- sums of products as expressions: of point i the coordinates are at places 2i and 2i + 1
record Two : Type 0 where
  p : Ex
  m : Ex

dif : ℕ → ℕ → Two
dif i j = record { p = va i; m = va j }

plus_e : Two → Two → Two
plus_e s t = record { p = add s.p t.p; m = add s.m t.m }

minus_e : Two → Two → Two
minus_e s t = record { p = add s.p t.m; m = add s.m t.p }

times_e : Two → Two → Two
times_e s t = record { p = add (mul s.p t.p) (mul s.m t.m); m = add (mul s.p t.m) (mul s.m t.p) }

cross_e : ℕ → ℕ → ℕ → Two
cross_e a b c =
    minus_e (times_e (dif (2 * b) (2 * a)) (dif (2 * c + 1) (2 * a + 1))) (times_e (dif (2 * b + 1) (2 * a + 1)) (dif (2 * c) (2 * a)))

square_e : ℕ → ℕ → Two
square_e a d = plus_e (times_e (dif (2 * a) (2 * d)) (dif (2 * a) (2 * d))) (times_e (dif (2 * a + 1) (2 * d + 1)) (dif (2 * a + 1) (2 * d + 1)))

circle_e : Two
circle_e = plus_e (plus_e (times_e (square_e 0 3) (cross_e 3 1 2)) (times_e (square_e 1 3) (cross_e 3 2 0))) (times_e (square_e 2 3) (cross_e 3 0 1))

area_e : ℕ → ℕ → ℕ → Two
area_e a b c =
    let yx : ℕ → ℕ → Ex = λ i j. mul (va (2 * i + 1)) (va (2 * j)) in
    let xy : ℕ → ℕ → Ex = λ i j. mul (va (2 * i)) (va (2 * j + 1)) in
    record { p = add (add (yx a b) (yx b c)) (yx c a); m = add (add (xy a b) (xy b c)) (xy c a) }

height_e : ℕ → Ex
height_e i = add (mul (va (2 * i)) (va (2 * i))) (mul (va (2 * i + 1)) (va (2 * i + 1)))

scale_e : ℕ → Two → Two
scale_e i t = record { p = mul (height_e i) t.p; m = mul (height_e i) t.m }

lift_e : Two
lift_e = minus_e (plus_e (plus_e (scale_e 0 (area_e 1 2 3)) (scale_e 1 (area_e 2 0 3))) (scale_e 2 (area_e 0 1 3))) (scale_e 3 (area_e 0 1 2))

places : Raised → Raised → Raised → Raised → List ℕ
places a b c d = a.x ∷ a.y ∷ b.x ∷ b.y ∷ c.x ∷ c.y ∷ d.x ∷ d.y ∷ []

-- ---- a pair that stands for a whole number
record Stands (s : Signed) (z : ℤ) : Type 0 where
  is : Is s.plus s.minus z

infixl 6 ◌⊕◌ ◌⊖◌
infixl 7 ◌⊗◌
abbrev ◌⊕◌ : Signed → Signed → Signed
s ⊕ t = record { plus = s.plus + t.plus; minus = s.minus + t.minus }

abbrev ◌⊖◌ : Signed → Signed → Signed
s ⊖ t = record { plus = s.plus + t.minus; minus = s.minus + t.plus }

abbrev ◌⊗◌ : Signed → Signed → Signed
s ⊗ t = record { plus = s.plus * t.plus + s.minus * t.minus; minus = s.plus * t.minus + s.minus * t.plus }

sums : {s t : Signed} {x y : ℤ} → Stands s x → Stands t y → Stands (s ⊕ t) (x +ℤ y)
sums {s} {t} {x} {y} h k = record { is = is_add s.plus s.minus t.plus t.minus x y h.is k.is }

differs : {s t : Signed} {x y : ℤ} → Stands s x → Stands t y → Stands (s ⊖ t) (x -ℤ y)
differs {s} {t} {x} {y} h k = record { is = is_minus_of s.plus s.minus t.plus t.minus x y h.is k.is }

multiplies : {s t : Signed} {x y : ℤ} → Stands s x → Stands t y → Stands (s ⊗ t) (x *ℤ y)
multiplies {s} {t} {x} {y} h k = record { is = is_mul s.plus s.minus t.plus t.minus x y h.is k.is }

same : {s : Signed} (t : Signed) {z : ℤ} → s.plus + t.minus ≡ s.minus + t.plus → Stands s z → Stands t z
same {s} t {z} e h = record { is = is_same s.plus s.minus t.plus t.minus z e h.is }

gap : ℕ → ℕ → Signed
gap i j = record { plus = i; minus = j }

apart : (v w : ℤ) → Within v → Within w → Stands (gap (up v) (up w)) (v -ℤ w)
unfolding gap
apart v w h k = record { is = is_dif (up v) (up w) 8192 v w (up_is v h) (up_is w k) }

-- ---- the two determinants
pub record Inside (a : GridPoint) : Type 0 where
  pub x : Within a.x
  pub y : Within a.y

turned : Signed → Signed
turned s = record { plus = s.minus; minus = s.plus }

module _ (a b c : GridPoint) (u : Inside a) (v : Inside b) (w : Inside c) where
  cross_s : Signed
  cross_s =
      gap (up b.x) (up a.x) ⊗ gap (up c.y) (up a.y)
      ⊖ gap (up b.y) (up a.y) ⊗ gap (up c.x) (up a.x)

  cross_stands : Stands cross_s (cross_of a b c)
  unfolding cross_s
  cross_stands =
      differs (multiplies (apart _ _ v.x u.x) (apart _ _ w.y u.y)) (multiplies (apart _ _ v.y u.y) (apart _ _ w.x u.x))

  cross_is : Stands (turned (area_of (raised_of a) (raised_of b) (raised_of c))) (cross_of a b c)
  unfolding cross_s gap turned dif minus_e times_e cross_e area_e places
  cross_is =
      same _ (solve (places (raised_of a) (raised_of b) (raised_of c) (raised_of a)) (add (cross_e 0 1 2).p (area_e 0 1 2).p) (add (cross_e 0 1 2).m (area_e 0 1 2).m) tt) cross_stands

  pub turns_is : above (area_of (raised_of a) (raised_of b) (raised_of c)) ≡ turns_left a b c
  unfolding turned
  turns_is = sym (is_below _ _ (cross_of a b c) cross_is.is)

-- ---- an edge that goes up
module _ (a b : GridPoint) (u : Inside a) (v : Inside b) where
  rise_is : Stands (gap (level_of (raised_of b)) (level_of (raised_of a))) (rise_of a b)
  unfolding gap
  rise_is =
      let dy = apart b.y a.y v.y u.y in
      let dx = apart b.x a.x v.x u.x in
      let scale : Stands (gap 32768 0) (pos 32768) = record { is = omega arith } in
      same _ (omega arith) (sums (multiplies scale dy) dx)

  pub up_is_up : ltb (level_of (raised_of a)) (level_of (raised_of b)) ≡ goes_up a b
  unfolding gap
  up_is_up = sym (is_above _ _ (rise_of a b) rise_is.is)

module _ (a d : GridPoint) (u : Inside a) (v : Inside d) where
  square_s : Signed
  square_s = gap (up a.x) (up d.x) ⊗ gap (up a.x) (up d.x) ⊕ gap (up a.y) (up d.y) ⊗ gap (up a.y) (up d.y)

  square_stands : Stands square_s (squared_to a d)
  unfolding square_s
  square_stands =
      let x = apart a.x d.x u.x v.x in
      let y = apart a.y d.y u.y v.y in
      sums (multiplies x x) (multiplies y y)

module _ (a b c d : GridPoint) (u : Inside a) (v : Inside b) (w : Inside c) (t : Inside d) where
  circle_is : Stands (turned (lift_of (raised_of a) (raised_of b) (raised_of c) (raised_of d))) (in_circle a b c d)
  unfolding cross_s square_s gap turned dif plus_e minus_e times_e cross_e square_e circle_e area_e height_e scale_e lift_e places
  circle_is =
      same _ (solve (places (raised_of a) (raised_of b) (raised_of c) (raised_of d)) (add circle_e.p lift_e.p) (add circle_e.m lift_e.m) tt)
      (sums (sums (multiplies (square_stands a d u t) (cross_stands d b c t v w)) (multiplies (square_stands b d v t) (cross_stands d c a t w u)))
      (multiplies (square_stands c d w t) (cross_stands d a b t u v)))

  pub inside_is : above (lift_of (raised_of a) (raised_of b) (raised_of c) (raised_of d)) ≡ strictly_inside a b c d
  unfolding turned
  inside_is = sym (is_below _ _ (in_circle a b c d) circle_is.is)
