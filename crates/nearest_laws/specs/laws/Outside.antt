-- A border whose sites all lie left of each of its edges, or on its line beyond its ends, is left by a line in one place only.
use Rattle.std.specs.Prelude.{◌⊎◌, ℕ}
use Rattle.std.proofs.Common.{⊎_elim, arith}
use Rattle.base.specs.common.laws.Decide.{lt_or_ge}
use Rattle.nearest_laws.specs.laws.Area.{◌⊕◌, ◌⊖◌, ◌⊗◌, Null, along, dif, from_a, from_b, two_edges, four_sides}
use Rattle.grid.specs.Raised.{area_of}
use Rattle.grid.specs.declared.Raised.{Raised}
use Rattle.grid.specs.declared.Signed.{Signed}
use Rattle.nearest_laws.specs.laws.Signs.{Pos, Neg, NonNeg, NonPos, nn, pp, no, on, oo, pn}

-- v lies left of the edge from a to b, or on its line and not between its ends
abbrev pub Outside : Raised → Raised → Raised → Type 0
Outside a b v = Pos (area_of a b v) ⊎ (Null (area_of a b v) × (Neg (along a b v a) ⊎ Pos (along a b v b)))

pub outside_left : (a b v : Raised) → Outside a b v → NonNeg (area_of a b v)
outside_left a b v h = ⊎_elim (λ k. weak (area_of a b v) k) (λ k. same (area_of a b v) k.0) h
  where
    weak : (s : Signed) → Pos s → NonNeg s
    weak s k = omega arith

    same : (s : Signed) → Null s → NonNeg s
    same s k = omega arith

square : (u w : ℕ) → NonNeg (dif u w ⊗ dif u w)
square u w = ⊎_elim (λ h. oo (dif u w) (dif u w) (omega arith) (omega arith)) (λ h. nn (dif u w) (dif u w) h h) (lt_or_ge u w)

long : (a b : Raised) → NonNeg (along a b b a)
long a b = omega (arith, square b.x a.x, square b.y a.y)

-- numbers only: what a line's side does along an edge
fall : (l dc k da n : Signed) → Null (l ⊗ dc ⊖ k ⊗ da ⊖ n) → NonNeg l → Neg k → Pos da → Null n → Neg dc
fall l dc k da n q hl hk hd hn =
    ⊎_elim
    (λ h. h)
    (λ h. absurd (omega (arith, q, hn, nn l dc hl h, pn da k hd hk)))
    (lt_or_ge dc.plus dc.minus)

rise : (l dc k da n : Signed) → Null (l ⊗ dc ⊖ k ⊗ da ⊖ n) → NonNeg l → Pos k → Pos da → Null n → Pos dc
rise l dc k da n q hl hk hd hn =
    ⊎_elim
    (λ h. h)
    (λ h. absurd (omega (arith, q, hn, no l dc hl h, pp k da hk hd)))
    (lt_or_ge dc.minus dc.plus)

nothing : (s t : Signed) → Null s → Null (s ⊗ t)
nothing s t q = rw q (omega arith)

-- c on the edge's line, beyond its ends, and not left of AB as b is: then it lies farther right than a
farther : (a b c A B : Raised) → NonPos (area_of A B a) → Pos (area_of A B b) → NonPos (area_of A B c) → Null (area_of a b c) → Neg (along a b c a) ⊎ Pos (along a b c b) → Neg
    (area_of A B c ⊖ area_of A B a)
farther a b c A B ha hb hc q h =
    let d : Pos (area_of A B b ⊖ area_of A B a) = up (area_of A B a) (area_of A B b) ha hb in
    let n = nothing (area_of a b c) (along a b B A) q in
    ⊎_elim
    (λ k. fall (along a b b a) (area_of A B c ⊖ area_of A B a) (along a b c a) (area_of A B b ⊖ area_of A B a) (area_of a b c ⊗ along a b B A) (from_a a b c A B) (long a b) k d n)
    (λ k. absurd (high (area_of A B b) (area_of A B c) hb hc (rise (along a b b a) (area_of A B c ⊖ area_of A B b) (along a b c b) (area_of A B b ⊖ area_of A B a) (area_of a b c ⊗ along a b B A)
    (from_b a b c A B) (long a b) k d n)))
    h
  where
    up : (s t : Signed) → NonPos s → Pos t → Pos (t ⊖ s)
    up s t h k = omega arith

    high : (s t : Signed) → Pos s → NonPos t → Pos (t ⊖ s) → ⊥
    high s t h k l = omega arith

zeros : (sa sb sc sd abc abd cda cdb : Signed) → Null (sd ⊗ abc ⊖ sc ⊗ abd ⊕ sb ⊗ cda ⊖ sa ⊗ cdb) → NonPos sa → Pos sb → NonPos sc → Pos sd → NonNeg abc → NonNeg abd
    → NonNeg cda
    → NonNeg cdb → Null abc × Null cda
zeros sa sb sc sd abc abd cda cdb q ha hb hc hd k₁ k₂ k₃ k₄ =
    let p₁ = nn sd abc (omega arith) k₁ in
    let p₂ = on sc abd hc k₂ in
    let p₃ = nn sb cda (omega arith) k₃ in
    let p₄ = on sa cdb ha k₄ in (
      ⊎_elim (λ h. absurd (omega (arith, q, p₂, p₃, p₄, pp sd abc hd h))) (λ h. omega arith) (lt_or_ge abc.minus abc.plus),
      ⊎_elim (λ h. absurd (omega (arith, q, p₁, p₂, p₄, pp sb cda hb h))) (λ h. omega arith) (lt_or_ge cda.minus cda.plus),
    )

pub one_exit : (a b c d A B : Raised) → NonPos (area_of A B a) → Pos (area_of A B b) → NonPos (area_of A B c) → Pos (area_of A B d) → Outside a b c → NonNeg (area_of a b d) → Outside c d a
    → NonNeg (area_of c d b) → ⊥
one_exit a b c d A B ha hb hc hd o₁ k₁ o₂ k₂ =
    let z = zeros (area_of A B a) (area_of A B b) (area_of A B c) (area_of A B d) (area_of a b c) (area_of a b d) (area_of c d a) (area_of c d b) (two_edges a b c d A B) ha hb hc hd
    (outside_left a b c o₁) k₁ (outside_left c d a o₂) k₂ in
    clash (area_of A B a) (area_of A B c) (⊎_elim (λ h. absurd (off (area_of a b c) h z.0)) (λ h. farther a b c A B ha hb hc h.0 h.1) o₁)
    (⊎_elim (λ h. absurd (off (area_of c d a) h z.1)) (λ h. farther c d a A B hc hd ha h.0 h.1) o₂)
  where
    off : (s : Signed) → Pos s → Null s → ⊥
    off s h k = omega arith

    clash : (s t : Signed) → Neg (t ⊖ s) → Neg (s ⊖ t) → ⊥
    clash s t h k = omega arith

-- two border edges on one line, with the mesh on different sides of it, cannot be
opposed : (sa sb sx sy bxy axy aby abx : Signed) → Null (sa ⊗ bxy ⊖ sb ⊗ axy ⊕ sx ⊗ aby ⊖ sy ⊗ abx) → Null sa → Null sb → Neg sx → Pos sy → NonNeg aby → Pos abx → ⊥
opposed sa sb sx sy bxy axy aby abx q ha hb hx hy k₁ k₂ =
    omega (arith, q, nothing sa bxy ha, nothing sb axy hb, on sx aby (omega arith) k₁, pp sy abx hy k₂)

pub not_opposed : (a b x y A B : Raised) → Null (area_of A B a) → Null (area_of A B b) → Neg (area_of A B x) → Pos (area_of A B y) → NonNeg (area_of a b y) → Pos (area_of a b x) → ⊥
not_opposed a b x y A B = opposed (area_of A B a) (area_of A B b) (area_of A B x) (area_of A B y) (area_of b x y) (area_of a x y) (area_of a b y) (area_of a b x) (four_sides a b x y A B)
