-- Twice the signed area of three points of whole coordinates, and the determinant of four lifted points, as what is added and what is taken off.
use Rattle.std.specs.Prelude.{◌≡◌, List, [], ◌∷◌, ℕ, ◌+◌, ◌*◌}
use Rattle.grid.specs.declared.Raised.{Raised}
use Rattle.grid.specs.declared.Signed.{Signed}
use Rattle.grid.specs.Raised.{area_of, lift_of}
use Rattle.grid.specs.laws.Ring.{Ex, va, add, mul, solve}

infixl 6 ◌⊕◌
abbrev pub ◌⊕◌ : Signed → Signed → Signed
s ⊕ t = record { plus = s.plus + t.plus; minus = s.minus + t.minus }

infixl 6 ◌⊖◌
abbrev pub ◌⊖◌ : Signed → Signed → Signed
s ⊖ t = record { plus = s.plus + t.minus; minus = s.minus + t.plus }

infixl 7 ◌⊗◌
abbrev pub ◌⊗◌ : Signed → Signed → Signed
s ⊗ t = record { plus = s.plus * t.plus + s.minus * t.minus; minus = s.plus * t.minus + s.minus * t.plus }

infixl 7 ◌▹◌
abbrev pub ◌▹◌ : ℕ → Signed → Signed
k ▹ t = record { plus = k * t.plus; minus = k * t.minus }

abbrev pub Null : Signed → Type 0
Null s = s.plus ≡ s.minus

-- the same as expressions, point i being at places 3i, 3i + 1, 3i + 2
record SgE : Type 0 where
  plus : Ex
  minus : Ex

plus_e : SgE → SgE → SgE
plus_e s t = record { plus = add s.plus t.plus; minus = add s.minus t.minus }

minus_e : SgE → SgE → SgE
minus_e s t = record { plus = add s.plus t.minus; minus = add s.minus t.plus }

times : SgE → SgE → SgE
times s t = record { plus = add (mul s.plus t.plus) (mul s.minus t.minus); minus = add (mul s.plus t.minus) (mul s.minus t.plus) }

scale : ℕ → SgE → SgE
scale i t = record { plus = mul (va (3 * i + 2)) t.plus; minus = mul (va (3 * i + 2)) t.minus }

xy : ℕ → ℕ → Ex
xy i j = mul (va (3 * i)) (va (3 * j + 1))

yx : ℕ → ℕ → Ex
yx i j = mul (va (3 * i + 1)) (va (3 * j))

area_e : ℕ → ℕ → ℕ → SgE
area_e a b c = record { plus = add (add (yx a b) (yx b c)) (yx c a); minus = add (add (xy a b) (xy b c)) (xy c a) }

lift_e : ℕ → ℕ → ℕ → ℕ → SgE
lift_e a b c d = minus_e (plus_e (plus_e (scale a (area_e b c d)) (scale b (area_e c a d))) (scale c (area_e a b d))) (scale d (area_e a b c))

points : Raised → Raised → Raised → Raised → Raised → List ℕ
points a b c d e = a.x ∷ a.y ∷ a.z ∷ b.x ∷ b.y ∷ b.z ∷ c.x ∷ c.y ∷ c.z ∷ d.x ∷ d.y ∷ d.z ∷ e.x ∷ e.y ∷ e.z ∷ []

pluck_e : SgE
pluck_e = plus_e (minus_e (times (area_e 0 1 2) (area_e 0 3 4)) (times (area_e 0 1 3) (area_e 0 2 4))) (times (area_e 0 1 4) (area_e 0 2 3))

-- the three-term relation: A(o,w,a)A(o,b,c) - A(o,w,b)A(o,a,c) + A(o,w,c)A(o,a,b) = 0
pub pluck : (o w a b c : Raised) → Null (area_of o w a ⊗ area_of o b c ⊖ area_of o w b ⊗ area_of o a c ⊕ area_of o w c ⊗ area_of o a b)
unfolding pluck_e points plus_e minus_e times scale xy yx area_e lift_e
pluck o w a b c = solve (points o w a b c) pluck_e.plus pluck_e.minus tt

pluck_e' : SgE
pluck_e' = plus_e (minus_e (times (area_e 1 0 2) (area_e 0 3 4)) (times (area_e 1 0 3) (area_e 0 2 4))) (times (area_e 1 0 4) (area_e 0 2 3))

-- the same with the line named from its other end
pub pluck' : (o w a b c : Raised) → Null (area_of w o a ⊗ area_of o b c ⊖ area_of w o b ⊗ area_of o a c ⊕ area_of w o c ⊗ area_of o a b)
unfolding pluck_e' points plus_e minus_e times scale xy yx area_e lift_e
pluck' o w a b c = solve (points o w a b c) pluck_e'.plus pluck_e'.minus tt

across_e : SgE
across_e = plus_e (minus_e (times (area_e 1 0 3) (lift_e 0 1 2 4)) (times (area_e 0 1 2) (lift_e 1 0 3 4))) (times (lift_e 0 1 2 3) (area_e 4 0 1))

-- from a triangle a b d to its neighbour b a c, seen from p: A(bac) L(abd,p) - A(abd) L(bac,p) + L(abd,c) A(p,a,b) = 0
pub across : (a b d c p : Raised) → Null (area_of b a c ⊗ lift_of a b d p ⊖ area_of a b d ⊗ lift_of b a c p ⊕ lift_of a b d c ⊗ area_of p a b)
unfolding across_e points plus_e minus_e times scale xy yx area_e lift_e
across a b d c p = solve (points a b d c p) across_e.plus across_e.minus tt

sum_e : SgE
sum_e = plus_e (minus_e (plus_e (area_e 0 1 2) (area_e 3 1 0)) (area_e 3 1 2)) (area_e 3 0 2)

-- A(bac) + A(pab) - A(pac) + A(pbc) = 0
pub parts : (b a c p : Raised) → Null (area_of b a c ⊕ area_of p a b ⊖ area_of p a c ⊕ area_of p b c)
unfolding sum_e points plus_e minus_e times scale xy yx area_e lift_e
parts b a c p = solve (points b a c p p) sum_e.plus sum_e.minus tt

turn_e : SgE
turn_e = minus_e (lift_e 1 0 2 3) (lift_e 0 2 1 3)

-- the determinant is that of the triangle named from another corner
pub turned : (a b c p : Raised) → Null (lift_of b a c p ⊖ lift_of a c b p)
unfolding turn_e points plus_e minus_e times scale xy yx area_e lift_e
turned a b c p = solve (points a b c p p) turn_e.plus turn_e.minus tt

flat_e : SgE
flat_e = lift_e 0 1 2 0

pub corner : (a b c : Raised) → Null (lift_of a b c a)
unfolding flat_e points plus_e minus_e times scale xy yx area_e lift_e
corner a b c = solve (points a b c a a) flat_e.plus flat_e.minus tt

flat_e₃ : SgE
flat_e₃ = lift_e 0 1 2 2

pub corner₃ : (a b c : Raised) → Null (lift_of a b c c)
unfolding flat_e₃ points plus_e minus_e times scale xy yx area_e lift_e
corner₃ a b c = solve (points a b c a a) flat_e₃.plus flat_e₃.minus tt

six : Raised → Raised → Raised → Raised → Raised → Raised → List ℕ
six a b c d e f = a.x ∷ a.y ∷ a.z ∷ b.x ∷ b.y ∷ b.z ∷ c.x ∷ c.y ∷ c.z ∷ d.x ∷ d.y ∷ d.z ∷ e.x ∷ e.y ∷ e.z ∷ f.x ∷ f.y ∷ f.z ∷ []

-- how much farther left of the line from a to b than v the point x lies
abbrev pub more : Raised → Raised → Raised → Raised → Signed
more a b v x = area_of a b x ⊖ area_of a b v

more_e : ℕ → ℕ → ℕ → ℕ → SgE
more_e a b v x = minus_e (area_e a b x) (area_e a b v)

fan_e : SgE
fan_e = plus_e (minus_e (times (more_e 0 1 2 3) (area_e 2 4 5)) (times (more_e 0 1 2 4) (area_e 2 3 5))) (times (more_e 0 1 2 5) (area_e 2 3 4))

-- the three-term relation of three directions at v and that of a line
pub fans : (a b v x y z : Raised) → Null (more a b v x ⊗ area_of v y z ⊖ more a b v y ⊗ area_of v x z ⊕ more a b v z ⊗ area_of v x y)
unfolding fan_e six more_e plus_e minus_e times scale xy yx area_e lift_e
fans a b v x y z = solve (six a b v x y z) fan_e.plus fan_e.minus tt

dif_e : Ex → Ex → SgE
dif_e u w = record { plus = u; minus = w }

-- the difference of two numbers
abbrev pub dif : ℕ → ℕ → Signed
dif u w = record { plus = u; minus = w }

span_e : ℕ → SgE
span_e i =
    let at : ℕ → Ex = λ k. va (3 * k + i) in
    plus_e (minus_e (times (dif_e (at 1) (at 0)) (area_e 2 3 4)) (times (dif_e (at 3) (at 2)) (more_e 0 1 2 4))) (times (dif_e (at 4) (at 2)) (more_e 0 1 2 3))

-- two directions at v that are along the line from a to b span nothing
pub span_x : (a b v x y : Raised) → Null (dif b.x a.x ⊗ area_of v x y ⊖ dif x.x v.x ⊗ more a b v y ⊕ dif y.x v.x ⊗ more a b v x)
unfolding span_e dif_e points more_e plus_e minus_e times scale xy yx area_e lift_e
span_x a b v x y = solve (points a b v x y) (span_e 0).plus (span_e 0).minus tt

pub span_y : (a b v x y : Raised) → Null (dif b.y a.y ⊗ area_of v x y ⊖ dif x.y v.y ⊗ more a b v y ⊕ dif y.y v.y ⊗ more a b v x)
unfolding span_e dif_e points more_e plus_e minus_e times scale xy yx area_e lift_e
span_y a b v x y = solve (points a b v x y) (span_e 1).plus (span_e 1).minus tt

-- how far c is from a, and from b, along the way from a to b; and how far the way from a to b goes along that from A to B
abbrev pub along : Raised → Raised → Raised → Raised → Signed
along a b c d = record { plus = c.x * b.x + d.x * a.x + (c.y * b.y + d.y * a.y); minus = c.x * a.x + d.x * b.x + (c.y * a.y + d.y * b.y) }

-- (c - d) . (b - a)
along_e : ℕ → ℕ → ℕ → ℕ → SgE
along_e a b c d =
    let x : ℕ → Ex = λ k. va (3 * k) in
    let y : ℕ → Ex = λ k. va (3 * k + 1) in
    record {
      plus = add (add (mul (x c) (x b)) (mul (x d) (x a))) (add (mul (y c) (y b)) (mul (y d) (y a)));
      minus = add (add (mul (x c) (x a)) (mul (x d) (x b)))
          (add (mul (y c) (y a)) (mul (y d) (y b)));
    }

from_e : ℕ → SgE
from_e o = minus_e (minus_e (times (along_e 0 1 1 0) (minus_e (area_e 3 4 2) (area_e 3 4 o))) (times (along_e 0 1 2 o) (minus_e (area_e 3 4 1) (area_e 3 4 0)))) (times (area_e 0 1 2) (along_e 0 1 4 3))

-- on the line from a to b, the side of the line from A to B changes as the way along
pub from_a : (a b c A B : Raised) → Null (along a b b a ⊗ (area_of A B c ⊖ area_of A B a) ⊖ along a b c a ⊗ (area_of A B b ⊖ area_of A B a) ⊖ area_of a b c ⊗ along a b B A)
unfolding from_e along_e points plus_e minus_e times scale xy yx area_e lift_e
from_a a b c A B = solve (points a b c A B) (from_e 0).plus (from_e 0).minus tt

pub from_b : (a b c A B : Raised) → Null (along a b b a ⊗ (area_of A B c ⊖ area_of A B b) ⊖ along a b c b ⊗ (area_of A B b ⊖ area_of A B a) ⊖ area_of a b c ⊗ along a b B A)
unfolding from_e along_e points plus_e minus_e times scale xy yx area_e lift_e
from_b a b c A B = solve (points a b c A B) (from_e 1).plus (from_e 1).minus tt

two_e : SgE
two_e = minus_e (plus_e (minus_e (times (area_e 4 5 3) (area_e 0 1 2)) (times (area_e 4 5 2) (area_e 0 1 3))) (times (area_e 4 5 1) (area_e 2 3 0))) (times (area_e 4 5 0) (area_e 2 3 1))

-- two edges a b and c d that a line cuts: the one is as far behind the other as the other is before it
pub two_edges : (a b c d A B : Raised) → Null (area_of A B d ⊗ area_of a b c ⊖ area_of A B c ⊗ area_of a b d ⊕ area_of A B b ⊗ area_of c d a ⊖ area_of A B a ⊗ area_of c d b)
unfolding two_e six plus_e minus_e times scale xy yx area_e lift_e
two_edges a b c d A B = solve (six a b c d A B) two_e.plus two_e.minus tt

cram_e : SgE
cram_e = minus_e (plus_e (minus_e (times (area_e 4 5 0) (area_e 1 2 3)) (times (area_e 4 5 1) (area_e 0 2 3))) (times (area_e 4 5 2) (area_e 0 1 3))) (times (area_e 4 5 3) (area_e 0 1 2))

pub four_sides : (a b x y A B : Raised) → Null (area_of A B a ⊗ area_of b x y ⊖ area_of A B b ⊗ area_of a x y ⊕ area_of A B x ⊗ area_of a b y ⊖ area_of A B y ⊗ area_of a b x)
unfolding cram_e six plus_e minus_e times scale xy yx area_e lift_e
four_sides a b x y A B = solve (six a b x y A B) cram_e.plus cram_e.minus tt

eight : Raised → Raised → Raised → Raised → Raised → Raised → Raised → Raised → List ℕ
eight a b c d e f g h =
    a.x ∷ a.y ∷ a.z ∷ b.x ∷ b.y ∷ b.z ∷ c.x ∷ c.y ∷ c.z ∷ d.x ∷ d.y ∷ d.z ∷ e.x ∷ e.y ∷ e.z ∷ f.x ∷ f.y ∷ f.z
    ∷ g.x ∷ g.y ∷ g.z ∷ h.x ∷ h.y ∷ h.z ∷ []

ways_e : SgE
ways_e = plus_e (minus_e (times (more_e 0 1 2 3) (more_e 4 5 6 7)) (times (more_e 0 1 4 5) (more_e 2 3 6 7))) (times (more_e 0 1 6 7) (more_e 2 3 4 5))

-- the three-term relation of four directions
pub ways : (a b c d e f g h : Raised) → Null (more a b c d ⊗ more e f g h ⊖ more a b e f ⊗ more c d g h ⊕ more a b g h ⊗ more c d e f)
unfolding ways_e eight more_e plus_e minus_e times scale xy yx area_e lift_e
ways a b c d e f g h = solve (eight a b c d e f g h) ways_e.plus ways_e.minus tt
