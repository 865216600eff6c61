-- How often the top right corner of the box is left along the top is a form of sides, with the corner as its potential along the top (`corner_form`), and round the box it is 1 (`box_once`):
-- by any two tests of places that tell the right edge from the left one and the top edge from the bottom.
use Rattle.std.specs.Prelude.{◌≡◌, Bool, false, ℕ, ◌+◌}
use Rattle.std.proofs.Math.Path.{refl}
use Rattle.std.proofs.Math.Bool.{true}
use native.Mathlib.Omega.{arith}
use Rattle.base.specs.common.Pick.{pick}
use Rattle.plane.specs.points.Plane.{at}
use Rattle.plane.specs.declared.points.Point.{Point}
use Rattle.plane.specs.boxes.Box.{corners_of}
use Rattle.plane.specs.declared.boxes.BoundingBox.{BoundingBox}
use Rattle.cutting.specs.cuts.Numbers.{Balance, none, ◌∸◌, ◌≈◌}
use Rattle.cutting.specs.cuts.Written.{round}
use Rattle.cutting.specs.pen.Pen.{same_place}
use Rattle.cutting.specs.declared.corner.SideName.{SideName}
use Rattle.cutting.specs.declared.corner.SideName.TheVariants.{Left, Top, Right, Bottom}
use Rattle.cutting.specs.sides.Area.{OnSide, SideForm}
use Rattle.cutting_calls.specs.answer.laws.Counting.{net_count, Respects, count_form}

abbrev pub one_by : Bool → Bool → Bool → ℕ
one_by u v w = pick u (λ _. pick v (λ _. pick w (λ _. 1) (λ _. 0)) (λ _. 0)) (λ _. 0)

abbrev pub one_when : Bool → ℕ
one_when u = pick u (λ _. 1) (λ _. 0)

-- `atRight` and `atTop` tell the edges
pub record TellsCorner (b : BoundingBox) (atRight atTop : Point → Bool) : Type 0 where
  pub same_right : (p q : Point) → same_place p q ≡ true → atRight p ≡ atRight q
  pub same_top : (p q : Point) → same_place p q ≡ true → atTop p ≡ atTop q
  pub left : (p : Point) → p.x ≡ b.left → atRight p ≡ false
  pub right : (p : Point) → p.x ≡ b.right → atRight p ≡ true
  pub top : (p : Point) → p.y ≡ b.top → atTop p ≡ true
  pub bottom : (p : Point) → p.y ≡ b.bottom → atTop p ≡ false

module _ (b : BoundingBox) (atRight atTop : Point → Bool) (tells : TellsCorner b atRight atTop) where
  -- from the top right corner along the top
  abbrev pub leaves_by : Point → Point → ℕ
  leaves_by p q = one_by (atRight p) (atTop p) (atTop q)

  abbrev rise : SideName → Point → Balance
  rise Left p = none
  rise Top p = record { plus = 0; minus = one_when (atRight p) }
  rise Right p = none
  rise Bottom p = none

  pub corner_respects : Respects leaves_by
  corner_respects p q h z = (rw (tells.same_right p q h, tells.same_top p q h) refl, rw (tells.same_top p q h) refl)

  pub corner_straight : (s : SideName) (p q : Point) → OnSide b s p → OnSide b s q → net_count leaves_by p q ≈ rise s q ∸ rise s p
  corner_straight Left p q e f = rw (tells.left p e, tells.left q f) refl
  corner_straight Right p q e f = rw (tells.right p e, tells.right q f) (both (atTop p) (atTop q))
    where
      both : (v w : Bool) → one_by true v w + 0 ≡ 0 + one_by true w v
      both true true = refl
      both true false = refl
      both false true = refl
      both false false = refl
  corner_straight Top p q e f = rw (tells.top p e, tells.top q f) (one (one_when (atRight p)) (one_when (atRight q)))
    where
      one : (m n : ℕ) → m + (n + 0) ≡ 0 + m + n
      one m n = omega arith
  corner_straight Bottom p q e f = rw (tells.bottom p e, tells.bottom q f) (nowhere (atRight p) (atRight q))
    where
      nowhere : (u v : Bool) → one_by u false false + 0 ≡ 0 + one_by v false false
      nowhere true true = refl
      nowhere true false = refl
      nowhere false true = refl
      nowhere false false = refl

  abbrev pub corner_form : SideForm b
  corner_form = count_form b leaves_by rise corner_respects corner_straight

  pub box_once : round (net_count leaves_by) (corners_of b) ≈ record { plus = 1; minus = 0 }
  unfolding corners_of
  box_once =
      omega (
        arith,
        corner_straight Left (at b.left b.top) (at b.left b.bottom) refl refl,
        corner_straight Bottom (at b.left b.bottom) (at b.right b.bottom) refl refl,
        corner_straight Right (at b.right b.bottom) (at b.right b.top) refl refl,
        corner_straight Top (at b.right b.top) (at b.left b.top) refl refl,
        is_one (tells.right (at b.right b.top) refl),
        is_none_lem (tells.left (at b.left b.top) refl),
      )
    where
      is_one : {u : Bool} → u ≡ true → one_when u ≡ 1
      is_one e = rw e refl

      is_none_lem : {u : Bool} → u ≡ false → one_when u ≡ 0
      is_none_lem e = rw e refl
