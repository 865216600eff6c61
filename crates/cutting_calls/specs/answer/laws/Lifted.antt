-- Forms of sides on whole numbers, as `covered` of a certificate wants them: what is netCount of sides that are not along an edge is nothing along the sides (`off_form`), and the top right corner
-- is told by its numbers (`lifted_corner`).
use Rattle.std.specs.Prelude.{◌≡◌, Bool, true, false, cond, ◌&&◌, ◌⊎◌, ℕ, ◌+◌, ◌-◌, ◌*◌, ◌<◌, eqb, Float}
use Rattle.std.proofs.Math.Path.{refl}
use Rattle.std.proofs.Common.{sym, ap, ◌∙◌, inl, inr, ⊎_elim, eq-eqb, ne_eqb}
use native.Mathlib.Omega.{arith}
use Rattle.std.specs.Float.Ieee.{eq}
use Rattle.base.specs.common.laws.And.{and_left, and_right}
use Rattle.root.specs.Root.{units}
use Rattle.ring_area.specs.Area.{below}
use Rattle.plane.specs.points.Plane.{at}
use Rattle.plane.specs.declared.points.Point.{Point}
use Rattle.plane.specs.boxes.Box.{corners_of}
use Rattle.plane.specs.declared.boxes.BoundingBox.{BoundingBox}
use Rattle.cutting.specs.cuts.Numbers.{none, ◌∸◌, ◌≈◌}
use Rattle.cutting.specs.cuts.Written.{round}
use Rattle.cutting.specs.pen.Pen.{same_place}
use Rattle.cutting.specs.declared.corner.SideName.{SideName}
use Rattle.cutting.specs.declared.corner.SideName.TheVariants.{Left, Top, Right, Bottom}
use Rattle.cutting.specs.sides.Area.{OnSide, SideForm}
use Rattle.cutting.specs.sides.Alike.{SameValue, same_value}
use Rattle.certifying.specs.cover.Sums.{WholePlace, OfSide}
use Rattle.certifying.specs.cover.Kinds as K
use Rattle.certifying.specs.cover.Kinds.{along_edge}
use Rattle.certifying.specs.truth.Places.{lift, raised_units, lifted_place, edge_place}
use Rattle.cutting_calls.specs.answer.laws.Counting.{net_count, Respects, count_form, one_true}
use Rattle.cutting_calls.specs.answer.laws.Corner.{TellsCorner}

-- ---- equal floats are the same number
raised_same : (x y : Float) → SameValue x y → raised_units x ≡ raised_units y
unfolding raised_units
raised_same x y v =
    ⊎_elim
    (λ e. ap (λ (s : Bool). cond s 0 (units x) + lift - cond s (units x) 0) e ∙ ap (λ (m : ℕ). cond (below y) 0 m + lift - cond (below y) m 0) v.magnitude)
    (λ e. zeros (below x) (below y) (units x) (units y) lift e (sym v.magnitude ∙ e))
    v.sign
  where
    zero_of : (s : Bool) (m l : ℕ) → m ≡ 0 → cond s 0 m + l - cond s m 0 ≡ l
    zero_of true m l e = omega arith
    zero_of false m l e = omega arith

    zeros : (s t : Bool) (m n l : ℕ) → m ≡ 0 → n ≡ 0 → cond s 0 m + l - cond s m 0 ≡ cond t 0 n + l - cond t n 0
    zeros s t m n l e f = zero_of s m l e ∙ sym (zero_of t n l f)

module _ (c : ℕ) where
  raised_x : (p q : Point) → same_place p q ≡ true → c * raised_units p.x ≡ c * raised_units q.x
  raised_x p q h = ap (λ (n : ℕ). c * n) (raised_same p.x q.x (same_value p.x q.x (and_left (eq p.x q.x) (eq p.y q.y) h)))

  raised_y : (p q : Point) → same_place p q ≡ true → c * raised_units p.y ≡ c * raised_units q.y
  raised_y p q h = ap (λ (n : ℕ). c * n) (raised_same p.y q.y (same_value p.y q.y (and_right (eq p.x q.x) (eq p.y q.y) h)))

  same_lifted : (p q : Point) → same_place p q ≡ true → lifted_place c p ≡ lifted_place c q
  same_lifted p q h =
      ap (λ (n : ℕ). record { x = n; y = c * raised_units p.y }) (raised_x p q h) ∙ ap (λ (n : ℕ). record { x = c * raised_units q.x; y = n }) (raised_y p q h)

  abbrev pub by_places : OfSide → Point → Point → ℕ
  by_places f p q = f (lifted_place c p) (lifted_place c q)

  pub by_respects : (f : OfSide) → Respects (by_places f)
  by_respects f p q h z =
      (ap (λ (d : WholePlace). f d (lifted_place c z)) (same_lifted p q h), ap (λ (d : WholePlace). f (lifted_place c z) d) (same_lifted p q h))

  module _ (b : BoundingBox) where
    abbrev along : WholePlace → WholePlace → Bool
    along = along_edge (edge_place c b.left) (edge_place c b.top) (edge_place c b.right) (edge_place c b.bottom)

    -- ---- what is not along an edge
    level : (x y : Float) → x ≡ y → eqb (c * raised_units x) (c * raised_units y) ≡ true
    level x y e = eq-eqb _ _ (ap (λ (z : Float). c * raised_units z) e)

    abbrev both_at : Float → Float → Float → Bool
    both_at x y e = eqb (c * raised_units x) (c * raised_units e) && eqb (c * raised_units y) (c * raised_units e)

    both : (x y e : Float) → x ≡ e → y ≡ e → both_at x y e ≡ true
    both x y e h k = rw (level x e h, level y e k) refl

    any_along : (p q : Point) → (both_at p.x q.x b.left ≡ true) ⊎ (both_at p.x q.x b.right ≡ true) ⊎ (both_at p.y q.y b.top ≡ true)
        ⊎ (both_at p.y q.y b.bottom ≡ true) → along (lifted_place c p) (lifted_place c q) ≡ true
    unfolding along_edge
    any_along p q = one_true (both_at p.x q.x b.left) (both_at p.x q.x b.right) (both_at p.y q.y b.top) (both_at p.y q.y b.bottom)

    on_along : (s : SideName) (p q : Point) → OnSide b s p → OnSide b s q → along (lifted_place c p) (lifted_place c q) ≡ true
    on_along Left p q e f = any_along p q (inl (both p.x q.x b.left e f))
    on_along Right p q e f = any_along p q (inr (inl (both p.x q.x b.right e f)))
    on_along Top p q e f = any_along p q (inr (inr (inl (both p.y q.y b.top e f))))
    on_along Bottom p q e f = any_along p q (inr (inr (inr (both p.y q.y b.bottom e f))))

    pub off_nothing : (f : OfSide) (s : SideName) (p q : Point) → OnSide b s p → OnSide b s q → net_count (by_places (K.off along f)) p q ≈ none ∸ none
    off_nothing f s p q e g = rw (on_along s p q e g, on_along s q p g e) refl

    abbrev pub off_form : OfSide → SideForm b
    off_form f = count_form b (by_places (K.off along f)) (λ _ _. none) (by_respects (K.off along f)) (off_nothing f)

    pub off_box : (f : OfSide) → round (net_count (by_places (K.off along f))) (corners_of b) ≈ none
    unfolding corners_of
    off_box f =
        omega (
          arith,
          off_nothing f Left (at b.left b.top) (at b.left b.bottom) refl refl,
          off_nothing f Bottom (at b.left b.bottom) (at b.right b.bottom) refl refl,
          off_nothing f Right (at b.right b.bottom) (at b.right b.top) refl refl,
          off_nothing f Top (at b.right b.top) (at b.left b.top) refl refl,
        )

    -- ---- the corner
    abbrev pub lifted_right : Point → Bool
    lifted_right p = eqb (c * raised_units p.x) (edge_place c b.right)

    abbrev pub lifted_top : Point → Bool
    lifted_top p = eqb (c * raised_units p.y) (edge_place c b.top)

    pub lifted_corner : edge_place c b.left < edge_place c b.right → edge_place c b.top < edge_place c b.bottom → TellsCorner b lifted_right lifted_top
    lifted_corner across down = record {
      same_right = λ p q h. ap (λ (n : ℕ). eqb n (edge_place c b.right)) (raised_x p q h);
      same_top = λ p q h. ap (λ (n : ℕ). eqb n (edge_place c b.top)) (raised_y p q h);
      left = λ p e. ap (λ (z : Float). eqb (c * raised_units z) (edge_place c b.right)) e ∙ ne_eqb _ _ (λ q. apart _ _ across q);
      right = λ p e. level p.x b.right e;
      top = λ p e. level p.y b.top e;
      bottom = λ p e. ap (λ (z : Float). eqb (c * raised_units z) (edge_place c b.top)) e ∙ ne_eqb _ _ (λ q. apart _ _ down (sym q));
    }
      where
        apart : (m n : ℕ) → m < n → m ≡ n → ⊥
        apart m n h e = omega arith
