-- While a ring is cut, an edge along a side keeps both ends on it, and of the line at infinity less is left after each side, in the end nothing (`cut_by_places`).
use Rattle.std.specs.Prelude.{◌≡◌, refl, Bool, true, false, cond, ◌||◌, List, [], ◌∷◌, ◌⊎◌, Float}
use Rattle.std.proofs.Common.{sym, ap, ◌∙◌, true≢false, inl, inr, ⊎_elim}
use Rattle.std.proofs.lemmas.Bool.{false≢true}
use Rattle.std.specs.Float.{nan, inf, fin}
use Rattle.std.specs.Float.Ieee.{lt, le, eq, ne, neg, of_bits}
use Rattle.std.specs.Float.Ieee.Compare.{differs_from_itself}
use Rattle.base.specs.common.Binary64.{zero, one, minus_one}
use Rattle.plane.specs.declared.points.Point.{Point}
use Rattle.plane.specs.declared.boxes.BoundingBox.{BoundingBox}
use Rattle.cutting.specs.cuts.Numbers.{◌≈◌}
use Rattle.cutting.specs.cuts.Rings.{At, RingEdge, ring_edges}
use Rattle.cutting.specs.cuts.Cut.{cut_by}
use Rattle.cutting.specs.cuts.Edges.{AllEdges, cut_edges}
use Rattle.cutting.specs.corner.Corner.{coordinate, on_side, past_low, past_high, within_of, near, upper_end, corner_of, Crossings, meet_of, side_of}
use Rattle.cutting.specs.declared.corner.SideName.{SideName}
use Rattle.cutting.specs.declared.corner.SideName.TheVariants.{Left, Top, Right, Bottom}
use Rattle.cutting.specs.declared.corner.Corner.{Corner}
use Rattle.cutting.specs.declared.corner.Carrier.{Carrier}
use Rattle.cutting.specs.declared.corner.Carrier.TheVariants.{Bisector, Along, Infinity}
use Rattle.cutting.specs.sides.Area.{OnSide, SideForm, LiesOn, plain, carried}
use Rattle.cutting.specs.sides.Kept.{Ordered, Downward, DownOrRight, NotLeft, HasDirection, Far, FitsCarrier}

-- ---- tests of floats
pub lt_le : (x y : Float) → lt x y ≡ true → le x y ≡ true
unfolding le
lt_le x y h = rw h refl

or_true : (a : Bool) → (a || true) ≡ true
or_true true = refl
or_true false = refl

le_self : (x : Float) → (x ≡ nan → ⊥) → le x x ≡ true
unfolding le ne
le_self x h = go (eq x x) refl
  where
    go : (t : Bool) → eq x x ≡ t → (lt x x || eq x x) ≡ true
    go true q = rw q (or_true (lt x x))
    go false q = absurd (h (differs_from_itself x (rw q tt)))

before_nan : (x : Float) → lt x nan ≡ false
unfolding lt
before_nan nan = refl
before_nan (inf s) = refl
before_nan (fin s m e) = refl

pub low_self : (x y : Float) → lt x y ≡ true → le x x ≡ true
unfolding lt
low_self x y h = le_self x (λ e. true≢false (sym h ∙ ap (λ (z : Float). lt z y) e))

pub high_self : (x y : Float) → lt x y ≡ true → le y y ≡ true
high_self x y h = le_self y (λ e. true≢false (sym h ∙ ap (λ (z : Float). lt x z) e ∙ before_nan x))

pub level_is : lt zero zero ≡ false
unfolding lt of_bits
level_is = refl

pub up_is : lt minus_one zero ≡ true
unfolding lt neg of_bits
up_is = refl

pub down_is : lt zero one ≡ true
unfolding lt of_bits
down_is = refl

pub not_up_is : lt one zero ≡ false
unfolding lt of_bits
not_up_is = refl

-- along a side it is the place that tells, and across it the direction
low_along : (f : Bool) (d c x : Float) → d ≡ zero → le c x ≡ true → past_low f d c x ≡ true
low_along true d c x e h = rw (e, level_is) h
low_along false d c x e h = h

high_along : (f : Bool) (d c x : Float) → d ≡ zero → le x c ≡ true → past_high f d c x ≡ true
high_along true d c x e h = rw (e, level_is) h
high_along false d c x e h = h

pub low_out : (f : Bool) (d c x : Float) → f ≡ true → lt d zero ≡ true → past_low f d c x ≡ false
low_out true d c x e h = rw h refl
low_out false d c x e h = absurd (false≢true e)

pub high_out : (f : Bool) (d c x : Float) → f ≡ true → lt zero d ≡ true → past_high f d c x ≡ false
high_out true d c x e h = rw h refl
high_out false d c x e h = absurd (false≢true e)

module _ (b : BoundingBox) (ordered : Ordered b) where
  on_side_lem : (s : SideName) (t : Float) → LiesOn b s (near (on_side b s t))
  on_side_lem Left t = (refl, refl)
  on_side_lem Top t = (refl, refl)
  on_side_lem Right t = (refl, refl)
  on_side_lem Bottom t = (refl, refl)

  -- a corner on a side is within that side and the one across
  pub within_left : (p : Corner) (c : Float) → p.place.x ≡ c → p.toward.x ≡ zero → le b.left c ≡ true → within_of b Left p ≡ true
  within_left p c e d h = low_along p.far p.toward.x b.left p.place.x d (rw e h)

  pub within_top : (p : Corner) (c : Float) → p.place.y ≡ c → p.toward.y ≡ zero → le b.top c ≡ true → within_of b Top p ≡ true
  within_top p c e d h = low_along p.far p.toward.y b.top p.place.y d (rw e h)

  pub within_right : (p : Corner) (c : Float) → p.place.x ≡ c → p.toward.x ≡ zero → le c b.right ≡ true → within_of b Right p ≡ true
  within_right p c e d h = high_along p.far p.toward.x b.right p.place.x d (rw e h)

  pub within_bottom : (p : Corner) (c : Float) → p.place.y ≡ c → p.toward.y ≡ zero → le c b.bottom ≡ true → within_of b Bottom p ≡ true
  within_bottom p c e d h = high_along p.far p.toward.y b.bottom p.place.y d (rw e h)

  pub never : {A : Type 0} (t : Bool) → t ≡ false → t ≡ true → A
  never t e h = absurd (false≢true (sym e ∙ h))

  -- so where a side leaves another, it is at a corner of the box, which lies on both
  at_corner : (s o : SideName) (p : Corner) → LiesOn b o p → within_of b s p ≡ false → LiesOn b o (near (on_side b s (coordinate b o)))
  at_corner Left Left p l e = never (within_of b Left p) e (within_left p b.left l.0 l.1 (low_self b.left b.right ordered.across))
  at_corner Left Top p l e = (refl, refl)
  at_corner Left Right p l e = never (within_of b Left p) e (within_left p b.right l.0 l.1 (lt_le b.left b.right ordered.across))
  at_corner Left Bottom p l e = (refl, refl)
  at_corner Top Left p l e = (refl, refl)
  at_corner Top Top p l e = never (within_of b Top p) e (within_top p b.top l.0 l.1 (low_self b.top b.bottom ordered.down))
  at_corner Top Right p l e = (refl, refl)
  at_corner Top Bottom p l e = never (within_of b Top p) e (within_top p b.bottom l.0 l.1 (lt_le b.top b.bottom ordered.down))
  at_corner Right Left p l e = never (within_of b Right p) e (within_right p b.left l.0 l.1 (lt_le b.left b.right ordered.across))
  at_corner Right Top p l e = (refl, refl)
  at_corner Right Right p l e = never (within_of b Right p) e (within_right p b.right l.0 l.1 (high_self b.left b.right ordered.across))
  at_corner Right Bottom p l e = (refl, refl)
  at_corner Bottom Left p l e = (refl, refl)
  at_corner Bottom Top p l e = never (within_of b Bottom p) e (within_bottom p b.top l.0 l.1 (lt_le b.top b.bottom ordered.down))
  at_corner Bottom Right p l e = (refl, refl)
  at_corner Bottom Bottom p l e = never (within_of b Bottom p) e (within_bottom p b.bottom l.0 l.1 (high_self b.top b.bottom ordered.down))

  -- one side: H before it, and H' past it, of the directions at Infinity
  module _ (x : Crossings) (s : SideName) (H H' : Point → Type 0) (stays : (p : Corner) → Far H p → within_of b s p ≡ true → Far H' p)
      (ends : (p q : Corner) → Far H p → Far H q → (within_of b s p ≡ true) ⊎ (within_of b s q ≡ true) → Far H' (meet_of b x s p q Infinity) × LiesOn b s (meet_of b x s p q Infinity))
    where
      pub inner : (p q : Corner) (k : Carrier) → FitsCarrier b H p q k → within_of b s p ≡ true → within_of b s q ≡ true → FitsCarrier b H' p q k
      inner p q (Bisector i j) f v w = tt
      inner p q (Along o) f v w = f
      inner p q Infinity f v w = (stays p f.0 v, stays q f.1 w)

      pub leaving : (p q : Corner) (k : Carrier) → FitsCarrier b H p q k → within_of b s p ≡ true → within_of b s q ≡ false
          → FitsCarrier b H' p (meet_of b x s p q k) k × LiesOn b s (meet_of b x s p q k)
      leaving p q (Bisector i j) f v w = (tt, on_side_lem s (x.cross s i j p q))
      leaving p q (Along o) f v w = ((f.0, at_corner s o q f.1 w), on_side_lem s (coordinate b o))
      leaving p q Infinity f v w = let e = ends p q f.0 f.1 (inl v) in ((stays p f.0 v, e.0), e.1)

      pub entering : (p q : Corner) (k : Carrier) → FitsCarrier b H p q k → within_of b s p ≡ false → within_of b s q ≡ true
          → FitsCarrier b H' (meet_of b x s p q k) q k × LiesOn b s (meet_of b x s p q k)
      entering p q (Bisector i j) f v w = (tt, on_side_lem s (x.cross s i j p q))
      entering p q (Along o) f v w = ((at_corner s o p f.0 v, f.1), on_side_lem s (coordinate b o))
      entering p q Infinity f v w = let e = ends p q f.0 f.1 (inr w) in ((e.0, stays q f.1 w), e.1)

      keeps : (ring : List (At Corner Carrier)) → AllEdges (FitsCarrier b H) (ring_edges ring) → AllEdges (FitsCarrier b H') (ring_edges (cut_by (side_of b x s) ring))
      keeps = cut_edges (side_of b x s) (FitsCarrier b H) (FitsCarrier b H') (LiesOn b s)
          (record { inner = inner; leaving = leaving; entering = entering; side = λ m n l r. (l, r) })

  -- ---- the four sides in turn
  module _ (x : Crossings) where
    pub stays_left : (p : Corner) → Far HasDirection p → within_of b Left p ≡ true → Far NotLeft p
    stays_left p f v = (f.0, ⊎_elim (λ e. never (within_of b Left p) (low_out p.far p.toward.x b.left p.place.x f.0 e) v) (λ d. d) f.1)

    pub ends_left : (p q : Corner) → Far NotLeft (meet_of b x Left p q Infinity) × LiesOn b Left (meet_of b x Left p q Infinity)
    ends_left p q = go (x.upward p q)
      where
        go : (t : Bool) → Far NotLeft (cond t (upper_end b) (corner_of b Left Infinity)) × LiesOn b Left (cond t (upper_end b) (corner_of b Left Infinity))
        go true = ((refl, inl up_is), (refl, refl))
        go false = ((refl, inr (inr down_is)), (refl, refl))

    pub stays_top : (p : Corner) → Far NotLeft p → within_of b Top p ≡ true → Far DownOrRight p
    stays_top p f v = (f.0, ⊎_elim (λ e. never (within_of b Top p) (low_out p.far p.toward.y b.top p.place.y f.0 e) v) (λ d. d) f.1)

    pub stays_right : (p : Corner) → Far DownOrRight p → within_of b Right p ≡ true → Far Downward p
    stays_right p f v = (f.0, ⊎_elim (λ e. never (within_of b Right p) (high_out p.far p.toward.x b.right p.place.x f.0 e) v) (λ d. d) f.1)

    keeps_left : (ring : List (At Corner Carrier)) → AllEdges (FitsCarrier b HasDirection) (ring_edges ring) → AllEdges (FitsCarrier b NotLeft) (ring_edges (cut_by (side_of b x Left) ring))
    keeps_left = keeps x Left HasDirection NotLeft stays_left (λ p q _ _ _. ends_left p q)

    keeps_top : (ring : List (At Corner Carrier)) → AllEdges (FitsCarrier b NotLeft) (ring_edges ring) → AllEdges (FitsCarrier b DownOrRight) (ring_edges (cut_by (side_of b x Top) ring))
    keeps_top = keeps x Top NotLeft DownOrRight stays_top (λ p q _ _ _. ((refl, inl down_is), (refl, refl)))

    keeps_right : (ring : List (At Corner Carrier)) → AllEdges (FitsCarrier b DownOrRight) (ring_edges ring) → AllEdges (FitsCarrier b Downward) (ring_edges (cut_by (side_of b x Right) ring))
    keeps_right = keeps x Right DownOrRight Downward stays_right (λ p q _ _ _. ((refl, down_is), (refl, refl)))

    pub past_bottom : {A : Type 0} (p : Corner) → Far Downward p → within_of b Bottom p ≡ true → A
    past_bottom p f v = never (within_of b Bottom p) (high_out p.far p.toward.y b.bottom p.place.y f.0 f.1) v

    keeps_bottom : (ring : List (At Corner Carrier)) → AllEdges (FitsCarrier b Downward) (ring_edges ring) → AllEdges (FitsCarrier b (λ _. ⊥)) (ring_edges (cut_by (side_of b x Bottom) ring))
    keeps_bottom = keeps x Bottom Downward (λ _. ⊥) (λ p f v. past_bottom p f v) (λ p q f g w. ⊎_elim (past_bottom p f) (past_bottom q g) w)

    -- what is left of a ring by all four: no edge at Infinity, and along each side edges that lie on it, so that a form by places is that by carriers
    lies_on : (s : SideName) (p : Corner) → LiesOn b s p → OnSide b s p.place
    lies_on Left p l = l.0
    lies_on Top p l = l.0
    lies_on Right p l = l.0
    lies_on Bottom p l = l.0

    module _ (f : SideForm b) where
      by_places_lem : (l : List (RingEdge Corner Carrier)) → AllEdges (FitsCarrier b (λ _. ⊥)) l → AllEdges (λ p q k. plain f p q k ≈ carried f p q k) l
      by_places_lem [] a = tt
      by_places_lem (e ∷ l) a = (go e.on a.0, by_places_lem l a.1)
        where
          go : (k : Carrier) → FitsCarrier b (λ _. ⊥) e.from e.to k → plain f e.from e.to k ≈ carried f e.from e.to k
          go (Bisector i j) w = refl
          go (Along s) w = f.straight s e.from.place e.to.place (lies_on s e.from w.0) (lies_on s e.to w.1)
          go Infinity w = absurd w.0.1

      pub cut_by_places : (ring : List (At Corner Carrier)) → AllEdges (FitsCarrier b HasDirection) (ring_edges ring)
          → AllEdges (λ p q k. plain f p q k ≈ carried f p q k)
          (ring_edges (cut_by (side_of b x Bottom) (cut_by (side_of b x Right) (cut_by (side_of b x Top) (cut_by (side_of b x Left) ring)))))
      cut_by_places ring a =
          by_places_lem (ring_edges (cut_by (side_of b x Bottom) r₃)) (keeps_bottom r₃ (keeps_right r₂ (keeps_top r₁ (keeps_left ring a))))
        where
          r₁ : List (At Corner Carrier)
          r₁ = cut_by (side_of b x Left) ring

          r₂ : List (At Corner Carrier)
          r₂ = cut_by (side_of b x Top) r₁

          r₃ : List (At Corner Carrier)
          r₃ = cut_by (side_of b x Right) r₂
