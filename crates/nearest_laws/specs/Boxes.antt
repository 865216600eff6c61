-- Theorem: the corners of a box are admitted destinations where its edges are; and where it is given by center and size in units of 2^-k, in units of half that:
-- a box of whole numbers has half-whole corners.
use Rattle.std.specs.Prelude.{◌≡◌, refl, Bool, true, false, not, ℕ, ◌+◌, ◌*◌, ◌^◌, ◌≤◌, ◌<◌, get_or, Float}
use Rattle.std.proofs.Common.{sym, ap, ◌∙◌, ⊎_elim, pow-add, pow_mono}
use Rattle.std.proofs.Math.Path.{subst}
use native.Mathlib.Omega.{arith}
use borrow.Author.Count.{below_none, below_more}
use Rattle.std.specs.Float.Ieee.{nan, binary64, up, down, unlike, round, div, sub, neg, of_bits}
use Rattle.std.specs.Float.{inf, fin}
use Rattle.std.specs.Float.Ieee.Exact.{HasValue}
use Rattle.std.specs.Float.Ieee.Fits.{down_pos}
use Rattle.base.specs.common.Binary64.{◌⊞◌, ◌⊟◌, ◌⊘◌, two}
use Rattle.base.specs.common.laws.Decide.{lt_or_ge}
use Rattle.plane.specs.points.Plane.{at}
use Rattle.plane.specs.declared.points.Point.{Point}
use Rattle.plane.specs.boxes.Box.{made_of, corners_of}
use Rattle.plane.specs.declared.boxes.BoundingBox.{BoundingBox}
use Rattle.plane.specs.given.Given.{edges_of}
use Rattle.nearest_laws.specs.laws.Exactly.{kept, signed_sum, add_at, neg_at}
use Rattle.nearest_laws.specs.Admitted.{AdmittedNumber, AdmittedPoint}

-- ---- by its edges
module _ {k : ℕ} (b : BoundingBox) (left : AdmittedNumber k b.left) (top : AdmittedNumber k b.top) (right : AdmittedNumber k b.right) (bottom : AdmittedNumber k b.bottom) where
  pub corners_admitted : (c : ℕ) → c < 4 → AdmittedPoint k (get_or (corners_of b) c (at nan nan))
  unfolding corners_of
  corners_admitted =
      below_more _ 3 (below_more _ 2 (below_more _ 1 (below_more _ 0 (below_none _) (record { x = left; y = top })) (record { x = left; y = bottom })) (record { x = right; y = bottom }))
      (record { x = right; y = top })

pub edges_admitted : {k : ℕ} (l t r b : Float) → AdmittedNumber k l → AdmittedNumber k t → AdmittedNumber k r → AdmittedNumber k b
    → (c : ℕ) → c < 4 → AdmittedPoint k (get_or (corners_of (edges_of l t r b)) c (at nan nan))
unfolding edges_of
edges_admitted l t r b hl ht hr hb = corners_admitted (edges_of l t r b) hl ht hr hb

-- ---- by its center and size
module _ (k : ℕ) where
  twice : (x : Float) (s : Bool) (a : ℕ) → HasValue x s a (2 ^ k) → HasValue x s (2 * a) (2 ^ (k + 1))
  twice nan s a h = absurd h
  twice (inf t) s a h = absurd h
  twice (fin t m e) s a h = (h.0, ap (λ n. m * up e * n) (pow-add 2 k 1) ∙ go (m * up e) (2 ^ k) (down e) h.1)
    where
      go : (u p d : ℕ) → u * p ≡ a * d → u * (p * 2) ≡ 2 * a * d
      go u p d q = omega (arith, q)

  unlike_not : (t : Bool) → unlike t false ≡ t
  unlike_not true = refl
  unlike_not false = refl

  half : k + 1 ≤ 1074 → (x : Float) (s : Bool) (a : ℕ) → HasValue x s a (2 ^ k) → a < 2 ^ 53 → HasValue (x ⊘ two) s a (2 ^ (k + 1))
  unfolding div of_bits
  half l nan s a h fine = absurd h
  half l (inf t) s a h fine = absurd h
  half l (fin t m e) s a h fine =
      subst (λ z. HasValue (round binary64 z (m * up e * 1) (1 * 2 * down e)) s a (2 ^ (k + 1))) (sym (unlike_not t ∙ h.0))
      (kept s (m * up e * 1) (1 * 2 * down e) a (k + 1) (den (down e) (down_pos e)) l fine (ap (λ n. m * up e * 1 * n) (pow-add 2 k 1) ∙ go (m * up e) (2 ^ k) (down e) h.1))
    where
      den : (d : ℕ) → 0 < d → 0 < 1 * 2 * d
      den d h = omega arith

      go : (u p d : ℕ) → u * p ≡ a * d → u * 1 * (p * 2) ≡ a * (1 * 2 * d)
      go u p d q = omega (arith, q)

  both_low : (s t : Bool) (a b : ℕ) → signed_sum s t a b ≤ a + b
  both_low true true a b = omega arith
  both_low true false a b = omega arith
  both_low false true a b = omega arith
  both_low false false a b = omega arith

  -- a center of a units, a size of n
  module _ (x w : Float) (s t : Bool) (a n : ℕ) (hx : HasValue x s a (2 ^ k)) (hw : HasValue w t n (2 ^ k)) (near : 2 * a + n + 2 ^ (k + 1) * 8192 < 2 ^ 26) where
    short : k + 1 ≤ 1074
    short = ⊎_elim (λ l. omega arith) (λ l. absurd (omega (arith, near, pow_mono {i = 13} {j = k + 1} l))) (lt_or_ge (k + 1) 13)

    side : (y : Float) (b : Bool) → HasValue y b n (2 ^ (k + 1)) → AdmittedNumber (k + 1) (x ⊞ y)
    side y b hy =
        let r = add_at (k + 1) short x y s b (2 * a) n (twice x s a hx) hy (omega (arith, near)) in
        record { minus = r.0; units = signed_sum s b (2 * a) n; value = r.1; near = omega (arith, near, both_low s b (2 * a) n) }

    pub sides_admitted : AdmittedNumber (k + 1) (x ⊟ w ⊘ two) × AdmittedNumber (k + 1) (x ⊞ w ⊘ two)
    unfolding sub
    sides_admitted =
        let h = half short w t n hw (omega (arith, near)) in
        (side (neg (w ⊘ two)) (not t) (neg_at (k + 1) short (w ⊘ two) t n h), side (w ⊘ two) t h)

-- a number of units of 2^-k
pub record Units (k : ℕ) (x : Float) : Type 0 where
  pub minus : Bool
  pub units : ℕ
  pub value : HasValue x minus units (2 ^ k)

-- its edges are admitted in half units where center and size are units, near enough
pub size_admitted : {k : ℕ} (c : Point) (w h : Float) (x : Units k c.x) (y : Units k c.y) (u : Units k w) (v : Units k h)
    → 2 * x.units + u.units + 2 ^ (k + 1) * 8192 < 2 ^ 26 → 2 * y.units + v.units + 2 ^ (k + 1) * 8192 < 2 ^ 26
    → (i : ℕ) → i < 4 → AdmittedPoint (k + 1) (get_or (corners_of (made_of c w h)) i (at nan nan))
unfolding made_of
size_admitted {k} c w h x y u v near-x near-y =
    let a = sides_admitted k c.x w x.minus u.minus x.units u.units x.value u.value near-x in
    let b = sides_admitted k c.y h y.minus v.minus y.units v.units y.value v.value near-y in
    corners_admitted (made_of c w h) a.0 b.0 a.1 b.1
