-- Forms of sides on floats, as the kinds of a certificate count them: from p to q, where that is not along an edge (`run_form`), and the top right corner by its coordinates (`float_corner`).
use Rattle.std.specs.Prelude.{◌≡◌, Bool, ◌&&◌, ◌⊎◌, ℕ, Float}
use Rattle.std.proofs.Math.Path.{refl}
use Rattle.std.proofs.Common.{sym, ap, ◌∙◌, inl, inr}
use Rattle.std.proofs.Math.Bool.{true, false}
use Rattle.std.proofs.lemmas.Bool.{false≢true}
use native.Mathlib.Omega.{arith}
use Rattle.std.specs.Float.Ieee.{lt, eq}
use Rattle.base.specs.common.laws.And.{and_left, and_right, holds}
use Rattle.root.specs.laws.Order.{le_not_lt}
use Rattle.plane.specs.points.Plane.{at}
use Rattle.plane.specs.declared.points.Point.{Point}
use Rattle.plane.specs.boxes.Box.{corners_of}
use Rattle.plane.specs.declared.boxes.BoundingBox.{BoundingBox}
use Rattle.auditing.specs.places.Places.{same_of}
use Rattle.cutting.specs.cuts.Numbers.{none, ◌∸◌, ◌≈◌}
use Rattle.cutting.specs.cuts.Written.{round}
use Rattle.cutting.specs.pen.Pen.{same_place}
use Rattle.cutting.specs.declared.corner.SideName.{SideName}
use Rattle.cutting.specs.declared.corner.SideName.TheVariants.{Left, Top, Right, Bottom}
use Rattle.cutting.specs.sides.Area.{OnSide, SideForm}
use Rattle.cutting.specs.sides.Kept.{Ordered}
use Rattle.cutting_writer.specs.join.laws.Equals.{eq_back, eq_both, place_back, place_both, low_equal, high_equal}
use Rattle.cutting_laws.specs.fills.laws.Within.{eq_le}
use Rattle.certifying.specs.sides.Sides.{one_for, along_of, leaves_of}
use Rattle.cutting_calls.specs.answer.laws.Counting.{net_count, Respects, count_form, one_true}
use Rattle.cutting_calls.specs.answer.laws.Corner.{TellsCorner, one_by}

same_test : (a d : Bool) → (a ≡ true → d ≡ true) → (d ≡ true → a ≡ true) → a ≡ d
same_test true d f g = sym (f refl)
same_test false true f g = g refl
same_test false false f g = refl

-- places that are equal equal the same ones
same_class : (z p q : Point) → same_place p q ≡ true → same_of z p ≡ same_of z q
unfolding same_of
same_class z p q h =
    same_test (same_place z p) (same_place z q) (λ e. place_both z p q e (place_back p q h)) (λ e. place_both z q p e h)

eq_class : (x y e : Float) → eq x y ≡ true → eq x e ≡ eq y e
eq_class x y e h = same_test (eq x e) (eq y e) (λ k. eq_both y x e (eq_back x y h) (eq_back x e k)) (λ k. eq_both x y e h (eq_back y e k))

-- what is before another does not equal it
lt_apart : (x y : Float) → lt x y ≡ true → eq x y ≡ false
lt_apart x y h = go (eq x y) refl
  where
    go : (t : Bool) → eq x y ≡ t → t ≡ false
    go true e = absurd (le_not_lt y x (holds (eq_le y x (eq_back x y e))) (holds h))
    go false e = refl

-- both of two coordinates equal an edge
abbrev both_at : Float → Float → Float → Bool
both_at x y e = eq x e && eq y e

both_at_lem : (x y d e z : Float) → eq x d ≡ true → eq y e ≡ true → d ≡ z → e ≡ z → both_at x y z ≡ true
both_at_lem x y d e z h k m n = let f : eq x z ≡ true = ap (λ (w : Float). eq x w) (sym m) ∙ h in let g : eq y z ≡ true = ap (λ (w : Float). eq y w) (sym n) ∙ k in rw (f, g) refl

at_x : (p d : Point) → same_place p d ≡ true → eq p.x d.x ≡ true
at_x p d h = and_left (eq p.x d.x) (eq p.y d.y) h

at_y : (p d : Point) → same_place p d ≡ true → eq p.y d.y ≡ true
at_y p d h = and_right (eq p.x d.x) (eq p.y d.y) h

module _ (b : BoundingBox) where
  -- ---- from p to q
  module _ (p q : Point) (clear : along_of b p q ≡ false) where
    abbrev pub runs_by : Point → Point → ℕ
    runs_by d e = one_for (same_of p d && same_of q e)

    pub runs_respect : Respects runs_by
    runs_respect d e h z = (rw (same_class p d e h) refl, rw (same_class q d e h) refl)

    -- a side along an edge is no such side
    any_along : (both_at p.x q.x b.left ≡ true) ⊎ (both_at p.x q.x b.right ≡ true) ⊎ (both_at p.y q.y b.top ≡ true) ⊎ (both_at p.y q.y b.bottom ≡ true)
        → along_of b p q ≡ true
    unfolding along_of
    any_along = one_true (both_at p.x q.x b.left) (both_at p.x q.x b.right) (both_at p.y q.y b.top) (both_at p.y q.y b.bottom)

    lies_along : (s : SideName) (d e : Point) → OnSide b s d → OnSide b s e → same_of p d ≡ true → same_of q e ≡ true → along_of b p q ≡ true
    unfolding same_of
    lies_along Left d e m n h k = any_along (inl (both_at_lem p.x q.x d.x e.x b.left (at_x p d h) (at_x q e k) m n))
    lies_along Right d e m n h k = any_along (inr (inl (both_at_lem p.x q.x d.x e.x b.right (at_x p d h) (at_x q e k) m n)))
    lies_along Top d e m n h k = any_along (inr (inr (inl (both_at_lem p.y q.y d.y e.y b.top (at_y p d h) (at_y q e k) m n))))
    lies_along Bottom d e m n h k = any_along (inr (inr (inr (both_at_lem p.y q.y d.y e.y b.bottom (at_y p d h) (at_y q e k) m n))))

    runs_none : (s : SideName) (d e : Point) → OnSide b s d → OnSide b s e → runs_by d e ≡ 0
    unfolding one_for
    runs_none s d e f g = go (same_of p d) (same_of q e) refl refl
      where
        go : (t u : Bool) → same_of p d ≡ t → same_of q e ≡ u → one_for (t && u) ≡ 0
        go true true h k = absurd (false≢true (sym clear ∙ lies_along s d e f g h k))
        go true false h k = refl
        go false u h k = refl

    pub runs_nothing : (s : SideName) (d e : Point) → OnSide b s d → OnSide b s e → net_count runs_by d e ≈ none ∸ none
    runs_nothing s d e f g = omega (arith, runs_none s d e f g, runs_none s e d g f)

    abbrev pub run_form : SideForm b
    run_form = count_form b runs_by (λ _ _. none) runs_respect runs_nothing

    pub runs_box : round (net_count runs_by) (corners_of b) ≈ none
    unfolding corners_of
    runs_box =
        omega (
          arith,
          runs_nothing Left (at b.left b.top) (at b.left b.bottom) refl refl,
          runs_nothing Bottom (at b.left b.bottom) (at b.right b.bottom) refl refl,
          runs_nothing Right (at b.right b.bottom) (at b.right b.top) refl refl,
          runs_nothing Top (at b.right b.top) (at b.left b.top) refl refl,
        )

  -- ---- the corner
  abbrev pub float_right : Point → Bool
  float_right p = eq p.x b.right

  abbrev pub float_top : Point → Bool
  float_top p = eq p.y b.top

  pub leaves_by_lem : (p q : Point) → one_for (leaves_of b p q) ≡ one_by (float_right p) (float_top p) (float_top q)
  unfolding leaves_of one_for
  leaves_by_lem p q = nested (eq p.x b.right) (eq p.y b.top) (eq q.y b.top)
    where
      nested : (u v w : Bool) → one_for (u && v && w) ≡ one_by u v w
      nested true true true = refl
      nested true true false = refl
      nested true false w = refl
      nested false v w = refl

  pub float_corner : Ordered b → TellsCorner b float_right float_top
  float_corner o = record {
    same_right = λ p q h. eq_class p.x q.x b.right (and_left (eq p.x q.x) (eq p.y q.y) h);
    same_top = λ p q h. eq_class p.y q.y b.top (and_right (eq p.x q.x) (eq p.y q.y) h);
    left = λ p e. ap (λ (z : Float). eq z b.right) e ∙ lt_apart b.left b.right o.across;
    right = λ p e. ap (λ (z : Float). eq z b.right) e ∙ high_equal b.left b.right o.across;
    top = λ p e. ap (λ (z : Float). eq z b.top) e ∙ low_equal b.top b.bottom o.down;
    bottom = λ p e. ap (λ (z : Float). eq z b.top) e ∙ same_test _ _ (λ k. eq_back b.bottom b.top k) (λ k. eq_back b.top b.bottom k) ∙ lt_apart b.top b.bottom o.down;
  }
