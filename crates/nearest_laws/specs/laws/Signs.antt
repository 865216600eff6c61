-- Along a line through triangles that turn the right way: what is beyond a later edge is beyond each earlier one, and the plane of a triangle carries over to the next.
use Rattle.std.specs.Prelude.{◌≡◌, ℕ, suc, ◌+◌, ◌-◌, ◌*◌, ◌≤◌, ◌<◌}
use Rattle.std.proofs.Common.{⊎_elim, arith}
use Rattle.base.specs.common.laws.Decide.{lt_or_ge}
use Rattle.nearest_laws.specs.laws.Area.{◌⊕◌, ◌⊖◌, ◌⊗◌, Null, across, parts}
use Rattle.grid.specs.Raised.{area_of, lift_of}
use Rattle.grid.specs.declared.Raised.{Raised}
use Rattle.grid.specs.declared.Signed.{Signed}

abbrev pub Pos : Signed → Type 0
Pos s = s.minus < s.plus

abbrev pub Neg : Signed → Type 0
Neg s = s.plus < s.minus

abbrev pub NonNeg : Signed → Type 0
NonNeg s = s.minus ≤ s.plus

abbrev pub NonPos : Signed → Type 0
NonPos s = s.plus ≤ s.minus

pub rect : (a b c d : ℕ) → a ≤ b → c ≤ d → a * d + b * c ≤ b * d + a * c
rect a b c d h k =
    let p : b ≡ a + (b - a) = omega arith in
    let q : d ≡ c + (d - c) = omega arith in
    go (b - a) (d - c) b d p q
  where
    go : (e f b d : ℕ) → b ≡ a + e → d ≡ c + f → a * d + b * c ≤ b * d + a * c
    go e f b d p q = rw (p, q) (omega arith)

pub rect< : (a b c d : ℕ) → a < b → c < d → a * d + b * c < b * d + a * c
rect< a b c d h k =
    let p : b ≡ a + suc (b - suc a) = omega arith in
    let q : d ≡ c + suc (d - suc c) = omega arith in
    go (b - suc a) (d - suc c) b d p q
  where
    go : (e f b d : ℕ) → b ≡ a + suc e → d ≡ c + suc f → a * d + b * c < b * d + a * c
    go e f b d p q = rw (p, q) (omega arith)

module _ (s t : Signed) where
  pub nn : NonNeg s → NonNeg t → NonNeg (s ⊗ t)
  nn h k = omega (arith, rect s.minus s.plus t.minus t.plus h k)

  pub pp : Pos s → Pos t → Pos (s ⊗ t)
  pp h k = omega (arith, rect< s.minus s.plus t.minus t.plus h k)

  pub no : NonNeg s → NonPos t → NonPos (s ⊗ t)
  no h k = omega (arith, rect s.minus s.plus t.plus t.minus h k)

  pub on : NonPos s → NonNeg t → NonPos (s ⊗ t)
  on h k = omega (arith, rect s.plus s.minus t.minus t.plus h k)

  pub oo : NonPos s → NonPos t → NonNeg (s ⊗ t)
  oo h k = omega (arith, rect s.plus s.minus t.plus t.minus h k)

  pub pn : Pos s → Neg t → Neg (s ⊗ t)
  pn h k = omega (arith, rect< s.minus s.plus t.plus t.minus h k)

-- a, b, c with their sides of a line through p; the triangle b a c turns the right way
module _ (sa sb sc : Signed) (a b c p : Raised) (three : Null (sa ⊗ area_of p b c ⊖ sb ⊗ area_of p a c ⊕ sc ⊗ area_of p a b)) (ccw : Pos (area_of b a c)) (right : NonPos sa)
    (left : Pos sb) where
  -- the line leaves b a c between a and c
  pub beyond_left : Pos sc → NonPos (area_of p a c) → NonPos (area_of p a b)
  beyond_left l h =
      ⊎_elim
      (λ k.
      let bc : Neg (area_of p b c) = omega (arith, parts b a c p) in
      absurd (omega (arith, three, oo sa (area_of p b c) right (omega arith), no sb (area_of p a c) (omega arith) h, pp sc (area_of p a b) l k)))
      (λ k. k)
      (lt_or_ge (area_of p a b).minus (area_of p a b).plus)

  pub past_left : Pos sc → Neg (area_of p a c) → Neg (area_of p a b)
  past_left l h =
      ⊎_elim
      (λ k. k)
      (λ k.
      let bc : Neg (area_of p b c) = omega (arith, parts b a c p) in
      absurd (omega (arith, three, oo sa (area_of p b c) right (omega arith), pn sb (area_of p a c) left h, nn sc (area_of p a b) (omega arith) k)))
      (lt_or_ge (area_of p a b).plus (area_of p a b).minus)

  -- it leaves between c and b
  pub beyond_right : NonPos sc → NonNeg (area_of p b c) → NonPos (area_of p a b)
  beyond_right r h =
      ⊎_elim
      (λ k.
      let ac : Pos (area_of p a c) = omega (arith, parts b a c p) in
      absurd (omega (arith, three, on sa (area_of p b c) right h, pp sb (area_of p a c) left ac, on sc (area_of p a b) r (omega arith))))
      (λ k. k)
      (lt_or_ge (area_of p a b).minus (area_of p a b).plus)

  pub past_right : NonPos sc → Pos (area_of p b c) → Neg (area_of p a b)
  past_right r h =
      ⊎_elim
      (λ k. k)
      (λ k.
      let ac : Pos (area_of p a c) = omega (arith, parts b a c p) in
      absurd (omega (arith, three, on sa (area_of p b c) right (omega arith), pp sb (area_of p a c) left ac, on sc (area_of p a b) r k)))
      (lt_or_ge (area_of p a b).plus (area_of p a b).minus)

module _ (u l v k j w : Signed) (sum : Null (u ⊗ l ⊖ v ⊗ k ⊕ j ⊗ w)) (first : Pos u) (second : Pos v) (low : NonPos j) where
  back : NonPos w → NonPos k → NonPos l
  back h g =
      ⊎_elim
      (λ z. absurd (omega (arith, sum, pp u l first z, no v k (omega arith) g, oo j w low h)))
      (λ z. z)
      (lt_or_ge l.minus l.plus)

  forth : NonNeg w → NonPos l → NonPos k
  forth h g =
      ⊎_elim
      (λ z. absurd (omega (arith, sum, pp v k second z, no u l (omega arith) g, on j w low h)))
      (λ z. z)
      (lt_or_ge k.minus k.plus)

-- two neighbours a b d and b a c, c not below the plane of the first
module _ (a b d c p : Raised) (first : Pos (area_of a b d)) (second : Pos (area_of b a c)) (convex : NonPos (lift_of a b d c)) where
  pub plane_back : NonPos (area_of p a b) → NonPos (lift_of b a c p) → NonPos (lift_of a b d p)
  plane_back = back (area_of b a c) (lift_of a b d p) (area_of a b d) (lift_of b a c p) (lift_of a b d c) (area_of p a b) (across a b d c p) second first convex

  pub plane_on : NonNeg (area_of p a b) → NonPos (lift_of a b d p) → NonPos (lift_of b a c p)
  plane_on = forth (area_of b a c) (lift_of a b d p) (area_of a b d) (lift_of b a c p) (lift_of a b d c) (area_of p a b) (across a b d c p) second first convex
