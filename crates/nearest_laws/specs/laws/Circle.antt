-- The squared distance to a place differs from x² + y² by what is affine, so the circle check is the convexity check for it.
use Rattle.std.specs.Prelude.{◌≡◌, List, [], ◌∷◌, ℕ, ◌+◌, ◌*◌}
use Rattle.std.proofs.Common.{sym, ◌∙◌, mul-le-mul_left}
use Rattle.std.proofs.Math.Path.{ap}
use native.Mathlib.Omega.{arith}
use Rattle.grid.specs.laws.Ring.{Ex, va, add, mul, solve}
use Rattle.nearest_laws.specs.laws.Area.{◌⊕◌, ◌⊖◌, ◌▹◌, Null}
use Rattle.grid.specs.Raised.{area_of}
use Rattle.grid.specs.declared.Raised.{Raised}
use Rattle.grid.specs.declared.Signed.{Signed}
use Rattle.nearest_laws.specs.laws.Signs.{NonPos}

abbrev pub raised_at : ℕ → ℕ → ℕ → Raised
raised_at x y z = record { x = x; y = y; z = z }

-- k (x² + y²) + c is z and twice x p + y q
abbrev pub Tilted : ℕ → ℕ → ℕ → ℕ → Raised → ℕ → Type 0
Tilted k c p q a h = k * (a.x * a.x + a.y * a.y) + c ≡ h + 2 * (a.x * p + a.y * q)

module _ (a b d e : Raised) where
  -- the determinant with heights of their own
  unfoldable pub by : ℕ → ℕ → ℕ → ℕ → Signed
  by i j k l = i ▹ area_of b d e ⊕ j ▹ area_of d a e ⊕ k ▹ area_of a b e ⊖ l ▹ area_of a b d

  by_sum : (i j k l i' j' k' l' : ℕ) → Null (by (i + i') (j + j') (k + k') (l + l') ⊖ by i j k l ⊖ by i' j' k' l')
  unfolding by
  by_sum i j k l i' j' k' l' = go (area_of b d e) (area_of d a e) (area_of a b e) (area_of a b d)
    where
      go : (s t u v : Signed) → Null (((i + i') ▹ s ⊕ (j + j') ▹ t ⊕ (k + k') ▹ u ⊖ (l + l') ▹ v) ⊖ (i ▹ s ⊕ j ▹ t ⊕ k ▹ u ⊖ l ▹ v) ⊖
          (i' ▹ s ⊕ j' ▹ t ⊕ k' ▹ u ⊖ l' ▹ v))
      go s t u v = omega arith

  by_times : (n i j k l : ℕ) → (by (n * i) (n * j) (n * k) (n * l)).plus ≡ n * (by i j k l).plus
  unfolding by
  by_times n i j k l = go (area_of b d e) (area_of d a e) (area_of a b e) (area_of a b d)
    where
      go : (s t u v : Signed) → n * i * s.plus + n * j * t.plus + n * k * u.plus + n * l * v.minus ≡ n * (i * s.plus + j * t.plus + k * u.plus + l * v.minus)
      go s t u v = omega arith

  by_times' : (n i j k l : ℕ) → (by (n * i) (n * j) (n * k) (n * l)).minus ≡ n * (by i j k l).minus
  unfolding by
  by_times' n i j k l = go (area_of b d e) (area_of d a e) (area_of a b e) (area_of a b d)
    where
      go : (s t u v : Signed) → n * i * s.minus + n * j * t.minus + n * k * u.minus + n * l * v.plus ≡ n * (i * s.minus + j * t.minus + k * u.minus + l * v.plus)
      go s t u v = omega arith

-- the determinant of heights that are affine in the place is nothing
ex_xy : ℕ → ℕ → Ex
ex_xy i j = mul (va (2 * i)) (va (2 * j + 1))

ex_yx : ℕ → ℕ → Ex
ex_yx i j = mul (va (2 * i + 1)) (va (2 * j))

ex_p : ℕ → ℕ → ℕ → Ex
ex_p a b c = add (add (ex_yx a b) (ex_yx b c)) (ex_yx c a)

ex_m : ℕ → ℕ → ℕ → Ex
ex_m a b c = add (add (ex_xy a b) (ex_xy b c)) (ex_xy c a)

-- x p + y q at point i, p and q at places 8 and 9
ex_h : ℕ → Ex
ex_h i = add (mul (va (2 * i)) (va 8)) (mul (va (2 * i + 1)) (va 9))

ex_by : (ℕ → Ex) → (ℕ → ℕ → ℕ → Ex) → (ℕ → ℕ → ℕ → Ex) → Ex
ex_by h p m = add (add (add (mul (h 0) (p 1 2 3)) (mul (h 1) (p 2 0 3))) (mul (h 2) (p 0 1 3))) (mul (h 3) (m 0 1 2))

places : Raised → Raised → Raised → Raised → ℕ → ℕ → List ℕ
places a b d e p q = a.x ∷ a.y ∷ b.x ∷ b.y ∷ d.x ∷ d.y ∷ e.x ∷ e.y ∷ p ∷ q ∷ []

tilt : (a b d e : Raised) (p q : ℕ) → Null (by a b d e (a.x * p + a.y * q) (b.x * p + b.y * q) (d.x * p + d.y * q) (e.x * p + e.y * q))
unfolding by ex_xy ex_yx ex_p ex_m ex_h ex_by places
tilt a b d e p q = solve (places a b d e p q) (ex_by ex_h ex_p ex_m) (ex_by ex_h ex_m ex_p) tt

even : (a b d e : Raised) (c : ℕ) → Null (by a b d e c c c c)
unfolding by ex_xy ex_yx ex_p ex_m ex_h ex_by places
even a b d e c = solve (places a b d e c c) (ex_by (λ _. va 8) ex_p ex_m) (ex_by (λ _. va 8) ex_m ex_p) tt

-- from the heights x² + y² to tilted ones
module _ (k c p q : ℕ) (a b d e : Raised) (ha hb hd hh : ℕ) (ta : Tilted k c p q a ha) (tb : Tilted k c p q b hb) (td : Tilted k c p q d hd) (te : Tilted k c p q e hh) where
  abbrev sq : Raised → ℕ
  sq v = v.x * v.x + v.y * v.y

  abbrev go_on : Raised → ℕ
  go_on v = v.x * p + v.y * q

  numbers : (sum low sum₂ flat slope big : Signed) → Null (sum₂ ⊖ big ⊖ flat) → Null flat → sum ≡ sum₂ → Null (sum ⊖ low ⊖ slope) → Null slope → NonPos big → NonPos low
  numbers sum low sum₂ flat slope big h₁ h₂ h₃ h₄ h₅ h₆ = let z = ap (λ s. s.plus) h₃ in let y = ap (λ s. s.minus) h₃ in omega arith

  pub tilted : NonPos (by a b d e (sq a) (sq b) (sq d) (sq e)) → NonPos (by a b d e ha hb hd hh)
  tilted h =
      numbers
      (by a b d e (ha + 2 * go_on a) (hb + 2 * go_on b) (hd + 2 * go_on d) (hh + 2 * go_on e))
      (by a b d e ha hb hd hh)
      (by a b d e (k * sq a + c) (k * sq b + c) (k * sq d + c) (k * sq e + c))
      (by a b d e c c c c)
      (by a b d e (2 * go_on a) (2 * go_on b) (2 * go_on d) (2 * go_on e))
      (by a b d e (k * sq a) (k * sq b) (k * sq d) (k * sq e))
      (by_sum a b d e (k * sq a) (k * sq b) (k * sq d) (k * sq e) c c c c)
      (even a b d e c)
      (rw (ta, tb, td, te))
      (by_sum a b d e ha hb hd hh (2 * go_on a) (2 * go_on b) (2 * go_on d) (2 * go_on e))
      (by_times a b d e 2 _ _ _ _ ∙ ap (λ n. 2 * n) (tilt a b d e p q) ∙ sym (by_times' a b d e 2 _ _ _ _))
      (rw (by_times a b d e k _ _ _ _, by_times' a b d e k _ _ _ _) (mul-le-mul_left k h))

-- ---- places moved by the same way: areas stay, and so does the determinant of their heights x² + y²
abbrev pub move : ℕ → Raised → Raised
move n a = raised_at (a.x + n) (a.y + n) ((a.x + n) * (a.x + n) + (a.y + n) * (a.y + n))

pub area_moved : (n : ℕ) (a b c : Raised) → Null (area_of (move n a) (move n b) (move n c) ⊖ area_of a b c)
area_moved n a b c = omega arith

module _ (n : ℕ) (a b d e : Raised) where
  abbrev square : Raised → ℕ
  square v = v.x * v.x + v.y * v.y

  -- what the square of a place moved has more
  abbrev slope : Raised → ℕ
  slope v = v.x * (2 * n) + v.y * (2 * n)

  abbrev rest : ℕ
  rest = 2 * (n * n)

  abbrev more : Raised → ℕ
  more v = square v + (slope v + rest)

  square_moved : (v : Raised) → square (move n v) ≡ more v
  square_moved v = omega arith

  by_moved : (i j k l : ℕ) → Null (by (move n a) (move n b) (move n d) (move n e) i j k l ⊖ by a b d e i j k l)
  unfolding by
  by_moved i j k l =
      go (area_of b d e) (area_of d a e) (area_of a b e) (area_of a b d) _ _ _ _ (area_moved n b d e) (area_moved n d a e) (area_moved n a b e) (area_moved n a b d)
    where
      go : (s t u v s' t' u' v' : Signed) → Null (s' ⊖ s) → Null (t' ⊖ t) → Null (u' ⊖ u) → Null (v' ⊖ v) → Null ((i ▹ s' ⊕ j ▹ t' ⊕ k ▹ u' ⊖ l ▹ v') ⊖ (i ▹ s ⊕ j ▹ t ⊕ k ▹ u ⊖ l ▹ v))
      go s t u v s' t' u' v' p q r w = omega (arith, ap (λ z. i * z) p, ap (λ z. j * z) q, ap (λ z. k * z) r, ap (λ z. l * z) w)

  still : (moved big low sum flat even : Signed) → Null (moved ⊖ big) → Null (big ⊖ low ⊖ sum) → Null (sum ⊖ flat ⊖ even) → Null flat → Null even → NonPos low → NonPos moved
  still moved big low sum flat even h₁ h₂ h₃ h₄ h₅ h₆ = omega arith

  pub lift_moved : NonPos (by a b d e (square a) (square b) (square d) (square e))
      → NonPos (by (move n a) (move n b) (move n d) (move n e) (square (move n a)) (square (move n b)) (square (move n d)) (square (move n e)))
  lift_moved h = go _ _ _ _ (square_moved a) (square_moved b) (square_moved d) (square_moved e)
    where
      go : (i j k l : ℕ) → i ≡ more a → j ≡ more b → k ≡ more d → l ≡ more e → NonPos (by (move n a) (move n b) (move n d) (move n e) i j k l)
      go i j k l p q r w =
          rw (p, q, r, w) (still
          (by (move n a) (move n b) (move n d) (move n e) (more a) (more b) (more d) (more e))
          (by a b d e (more a) (more b) (more d) (more e))
          (by a b d e (square a) (square b) (square d) (square e))
          (by a b d e (slope a + rest) (slope b + rest) (slope d + rest) (slope e + rest))
          (by a b d e (slope a) (slope b) (slope d) (slope e))
          (by a b d e rest rest rest rest)
          (by_moved (more a) (more b) (more d) (more e))
          (by_sum a b d e (square a) (square b) (square d) (square e) (slope a + rest) (slope b + rest) (slope d + rest) (slope e + rest))
          (by_sum a b d e (slope a) (slope b) (slope d) (slope e) rest rest rest rest)
          (tilt a b d e (2 * n) (2 * n))
          (even a b d e rest)
          h)
