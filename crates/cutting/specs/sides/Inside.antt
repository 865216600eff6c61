-- Theorem: every place of a piece is in the box, by exact comparison (`pieces_inside`), where a bisector's crossing stays within the sides that both ends of its edge are within. And no
-- corner at infinity is left of a ring whose corners at infinity have a direction (`pieces_near`).
use Rattle.std.specs.Prelude.{◌≡◌, refl, Bool, true, false, cond, List, [], ◌∷◌, ◌⊎◌, ℕ, Float}
use Rattle.std.proofs.Common.{sym, ◌∙◌, true≢false, inl, inr, ⊎_elim}
use Rattle.std.proofs.lemmas.Bool.{false≢true}
use Rattle.std.specs.Float.Ieee.{lt, le}
use Rattle.base.specs.common.Binary64.{zero}
use Rattle.plane.specs.declared.points.Point.{Point}
use Rattle.plane.specs.declared.boxes.BoundingBox.{BoundingBox}
use Rattle.cutting.specs.cuts.Rings.{At, RingEdge, ring_edges, edges_to}
use Rattle.cutting.specs.cuts.Cut.{cut_by}
use Rattle.cutting.specs.cuts.Edges.{AllEdges, cut_edges}
use Rattle.cutting.specs.corner.Corner.{on_side, past_low, past_high, within_of, near, line_end, upper_end, Crossings, meet_of, side_of}
use Rattle.cutting.specs.declared.corner.SideName.{SideName}
use Rattle.cutting.specs.declared.corner.SideName.TheVariants.{Left, Top, Right, Bottom}
use Rattle.cutting.specs.declared.corner.Corner.{Corner}
use Rattle.cutting.specs.declared.corner.Carrier.{Carrier}
use Rattle.cutting.specs.declared.corner.Carrier.TheVariants.{Bisector, Along, Infinity}
use Rattle.cutting.specs.sides.Area.{LiesOn, places_of}
use Rattle.cutting.specs.sides.Kept.{Ordered, Downward, DownOrRight, NotLeft, HasDirection, Far, FitsCarrier}
use Rattle.cutting.specs.sides.laws.Keeping.{inner, leaving, entering, within_left, within_top, within_right, within_bottom}
use Rattle.cutting.specs.sides.laws.Keeping.{lt_le, low_self, high_self, low_out, high_out, up_is, down_is, not_up_is, stays_left, ends_left, stays_top, stays_right, past_bottom}
use Rattle.cutting.specs.sides.Exact.{piece_of}

-- a crossing stays within a side that both ends are within
pub record Between (b : BoundingBox) (x : Crossings) : Type 0 where
  pub between : (s o : SideName) (i j : ℕ) (p q : Corner) → within_of b o p ≡ true → within_of b o q ≡ true → (within_of b s p ≡ within_of b s q → ⊥)
      → within_of b o (near (on_side b s (x.cross s i j p q))) ≡ true

pub record WithinBox (b : BoundingBox) (p : Point) : Type 0 where
  pub from_left : le b.left p.x ≡ true
  pub to_right : le p.x b.right ≡ true
  pub from_top : le b.top p.y ≡ true
  pub to_bottom : le p.y b.bottom ≡ true

abbrev pub AllInBox : BoundingBox → List Point → Type 0
AllInBox b [] = Unit {0}
AllInBox b (p ∷ r) = WithinBox b p × AllInBox b r

-- a corner at infinity has a direction; and there is none in a ring
abbrev pub Aimed : Corner → Type 0
Aimed p = p.far ≡ true → HasDirection p.toward

abbrev pub AimedEdge : Corner → Corner → Carrier → Type 0
AimedEdge p q k = Aimed p × Aimed q

abbrev pub AllNear : List (At Corner Carrier) → Type 0
AllNear [] = Unit {0}
AllNear (v ∷ r) = (v.corner.far ≡ false) × AllNear r

-- a ring by all four sides, as they cut it
abbrev pub left_over : BoundingBox → Crossings → List (At Corner Carrier) → List (At Corner Carrier)
left_over b x ring = cut_by (side_of b x Bottom) (cut_by (side_of b x Right) (cut_by (side_of b x Top) (cut_by (side_of b x Left) ring)))

-- what is within two sides across from each other has its place between them, at infinity too
between_sides : (f : Bool) (d l r x : Float) → past_low f d l x ≡ true → past_high f d r x ≡ true → (le l x ≡ true) × (le x r ≡ true)
between_sides false d l r x u v = (u, v)
between_sides true d l r x u v = go (lt d zero) (lt zero d) u v
  where
    go : (s t : Bool) → cond s false (cond t true (le l x)) ≡ true → cond t false (cond s true (le x r)) ≡ true → (le l x ≡ true) × (le x r ≡ true)
    go true t u v = absurd (false≢true u)
    go false true u v = absurd (false≢true v)
    go false false u v = (u, v)

module _ (b : BoundingBox) (ordered : Ordered b) (x : Crossings) (bounded : Between b x) where
  -- both ends of an edge have W besides
  abbrev Both : (Point → Type 0) → (Corner → Type 0) → Corner → Corner → Carrier → Type 0
  Both H W p q k = FitsCarrier b H p q k × W p × W q

  module _ (s : SideName) (H H' : Point → Type 0) (stays : (p : Corner) → Far H p → within_of b s p ≡ true → Far H' p)
      (ends : (p q : Corner) → Far H p → Far H q → (within_of b s p ≡ true) ⊎ (within_of b s q ≡ true) → Far H' (meet_of b x s p q Infinity) × LiesOn b s (meet_of b x s p q Infinity))
      (W W' : Corner → Type 0) (kept : (p : Corner) → W p → within_of b s p ≡ true → W' p)
      (crossed : (p q : Corner) (k : Carrier) → FitsCarrier b H p q k → W p → W q → (within_of b s p ≡ within_of b s q → ⊥) → LiesOn b s (meet_of b x s p q k) → W' (meet_of b x s p q k))
    where
      keeps_both : (ring : List (At Corner Carrier)) → AllEdges (Both H W) (ring_edges ring) → AllEdges (Both H' W') (ring_edges (cut_by (side_of b x s) ring))
      keeps_both = cut_edges (side_of b x s) (Both H W) (Both H' W') (λ m. LiesOn b s m × W' m)
          (record {
            inner = λ p q k f v w. (inner b ordered x s H H' stays ends p q k f.0 v w, kept p f.1 v, kept q f.2 w);
            leaving = λ p q k f v w.
                let c = leaving b ordered x s H H' stays ends p q k f.0 v w in
                let m = crossed p q k f.0 f.1 f.2 (λ e. true≢false (sym v ∙ e ∙ w)) c.1 in
                ((c.0, kept p f.1 v, m), (c.1, m));
            entering = λ p q k f v w.
                let c = entering b ordered x s H H' stays ends p q k f.0 v w in
                let m = crossed p q k f.0 f.1 f.2 (λ e. false≢true (sym v ∙ e ∙ w)) c.1 in
                ((c.0, m, kept q f.2 w), (c.1, m));
            side = λ m n l r. ((l.0, r.0), l.1, r.1);
          })

  abbrev W₁ : Corner → Type 0
  W₁ p = within_of b Left p ≡ true

  abbrev W₂ : Corner → Type 0
  W₂ p = W₁ p × (within_of b Top p ≡ true)

  abbrev W₃ : Corner → Type 0
  W₃ p = W₂ p × (within_of b Right p ≡ true)

  abbrev W₄ : Corner → Type 0
  W₄ p = W₃ p × (within_of b Bottom p ≡ true)

  abbrev l_l : le b.left b.left ≡ true
  l_l = low_self b.left b.right ordered.across

  abbrev l_r : le b.left b.right ≡ true
  l_r = lt_le b.left b.right ordered.across

  abbrev r_r : le b.right b.right ≡ true
  r_r = high_self b.left b.right ordered.across

  abbrev t_t : le b.top b.top ≡ true
  t_t = low_self b.top b.bottom ordered.down

  abbrev t_b : le b.top b.bottom ≡ true
  t_b = lt_le b.top b.bottom ordered.down

  abbrev b_b : le b.bottom b.bottom ≡ true
  b_b = high_self b.top b.bottom ordered.down

  -- where an edge crosses the top it is within the left side
  top_in_left : (p q : Corner) (k : Carrier) → FitsCarrier b NotLeft p q k → W₁ p → W₁ q → (within_of b Top p ≡ within_of b Top q → ⊥) → W₁ (meet_of b x Top p q k)
  top_in_left p q (Bisector i j) f u v d = bounded.between Top Left i j p q u v d
  top_in_left p q (Along Left) f u v d = l_l
  top_in_left p q (Along Top) f u v d =
      absurd (d (within_top b ordered p b.top f.0.0 f.0.1 t_t ∙ sym (within_top b ordered q b.top f.1.0 f.1.1 t_t)))
  top_in_left p q (Along Right) f u v d = l_r
  top_in_left p q (Along Bottom) f u v d =
      absurd (d (within_top b ordered p b.bottom f.0.0 f.0.1 t_b ∙ sym (within_top b ordered q b.bottom f.1.0 f.1.1 t_b)))
  top_in_left p q Infinity f u v d = rw (not_up_is, down_is) refl

  right_in_top : (p q : Corner) (k : Carrier) → FitsCarrier b DownOrRight p q k → W₂ p → W₂ q → (within_of b Right p ≡ within_of b Right q → ⊥)
      → within_of b Top (meet_of b x Right p q k) ≡ true
  right_in_top p q (Bisector i j) f u v d = bounded.between Right Top i j p q u.1 v.1 d
  right_in_top p q (Along Left) f u v d =
      absurd (d (within_right b ordered p b.left f.0.0 f.0.1 l_r ∙ sym (within_right b ordered q b.left f.1.0 f.1.1 l_r)))
  right_in_top p q (Along Top) f u v d = t_t
  right_in_top p q (Along Right) f u v d =
      absurd (d (within_right b ordered p b.right f.0.0 f.0.1 r_r ∙ sym (within_right b ordered q b.right f.1.0 f.1.1 r_r)))
  right_in_top p q (Along Bottom) f u v d = t_b
  right_in_top p q Infinity f u v d = rw (not_up_is, down_is) refl

  bottom_in_sides : (p q : Corner) (k : Carrier) → FitsCarrier b Downward p q k → W₃ p → W₃ q → (within_of b Bottom p ≡ within_of b Bottom q → ⊥)
      → W₁ (meet_of b x Bottom p q k) × (within_of b Right (meet_of b x Bottom p q k) ≡ true)
  bottom_in_sides p q (Bisector i j) f u v d =
      (bounded.between Bottom Left i j p q u.0.0 v.0.0 d, bounded.between Bottom Right i j p q u.1 v.1 d)
  bottom_in_sides p q (Along Left) f u v d = (l_l, l_r)
  bottom_in_sides p q (Along Top) f u v d =
      absurd (d (within_bottom b ordered p b.top f.0.0 f.0.1 t_b ∙ sym (within_bottom b ordered q b.top f.1.0 f.1.1 t_b)))
  bottom_in_sides p q (Along Right) f u v d = (l_r, r_r)
  bottom_in_sides p q (Along Bottom) f u v d =
      absurd (d (within_bottom b ordered p b.bottom f.0.0 f.0.1 b_b ∙ sym (within_bottom b ordered q b.bottom f.1.0 f.1.1 b_b)))
  bottom_in_sides p q Infinity f u v d =
      absurd (d (high_out p.far p.toward.y b.bottom p.place.y f.0.0 f.0.1
      ∙ sym (high_out q.far q.toward.y b.bottom q.place.y f.1.0 f.1.1)))

  -- ---- the four sides in turn
  past_left : (ring : List (At Corner Carrier)) → AllEdges (Both HasDirection (λ _. Unit {0})) (ring_edges ring) → AllEdges (Both NotLeft W₁) (ring_edges (cut_by (side_of b x Left) ring))
  past_left = keeps_both Left HasDirection NotLeft (stays_left b ordered x) (λ p q _ _ _. ends_left b ordered x p q) (λ _. Unit {0}) W₁ (λ p _ v. v)
      (λ p q k f _ _ d m. within_left b ordered (meet_of b x Left p q k) b.left m.0 m.1 l_l)

  past_top : (ring : List (At Corner Carrier)) → AllEdges (Both NotLeft W₁) (ring_edges ring) → AllEdges (Both DownOrRight W₂) (ring_edges (cut_by (side_of b x Top) ring))
  past_top = keeps_both Top NotLeft DownOrRight (stays_top b ordered x) (λ p q _ _ _. ((refl, inl down_is), (refl, refl))) W₁ W₂ (λ p u v. (u, v))
      (λ p q k f u v d m. (top_in_left p q k f u v d, within_top b ordered (meet_of b x Top p q k) b.top m.0 m.1 t_t))

  past_right : (ring : List (At Corner Carrier)) → AllEdges (Both DownOrRight W₂) (ring_edges ring) → AllEdges (Both Downward W₃) (ring_edges (cut_by (side_of b x Right) ring))
  past_right = keeps_both Right DownOrRight Downward (stays_right b ordered x) (λ p q _ _ _. ((refl, down_is), (refl, refl))) W₂ W₃ (λ p u v. (u, v))
      (λ p q k f u v d m. (
        (within_left b ordered (meet_of b x Right p q k) b.right m.0 m.1 l_r, right_in_top p q k f u v d),
        within_right b ordered (meet_of b x Right p q k) b.right m.0 m.1 r_r,
      ))

  past_bottoms : (ring : List (At Corner Carrier)) → AllEdges (Both Downward W₃) (ring_edges ring) → AllEdges (Both (λ _. ⊥) W₄) (ring_edges (cut_by (side_of b x Bottom) ring))
  past_bottoms = keeps_both Bottom Downward (λ _. ⊥) (λ p f v. past_bottom b ordered x p f v)
      (λ p q f g w. ⊎_elim (past_bottom b ordered x p f) (past_bottom b ordered x q g) w) W₃ W₄ (λ p u v. (u, v))
      (λ p q k f u v d m.
      let c = bottom_in_sides p q k f u v d in
      let t = within_top b ordered (meet_of b x Bottom p q k) b.bottom m.0 m.1 t_b in
      (((c.0, t), c.1), within_bottom b ordered (meet_of b x Bottom p q k) b.bottom m.0 m.1 b_b))

  inside_of : (p : Corner) → W₄ p → WithinBox b p.place
  inside_of p w =
      let h = between_sides p.far p.toward.x b.left b.right p.place.x w.0.0.0 w.0.1 in
      let v = between_sides p.far p.toward.y b.top b.bottom p.place.y w.0.0.1 w.1 in
      record { from_left = h.0; to_right = h.1; from_top = v.0; to_bottom = v.1 }

  inside_to : (e : Corner) (l : List (At Corner Carrier)) → AllEdges (Both (λ _. ⊥) W₄) (edges_to e l) → AllInBox b (places_of l)
  inside_to e [] a = tt
  inside_to e (v ∷ r) a = (inside_of v.corner a.0.1, inside_to e r a.1)

  inside_ring : (l : List (At Corner Carrier)) → AllEdges (Both (λ _. ⊥) W₄) (ring_edges l) → AllInBox b (places_of l)
  inside_ring [] a = tt
  inside_ring (v ∷ r) a = inside_to v.corner (v ∷ r) a

  plain_ends : (l : List (RingEdge Corner Carrier)) → AllEdges (FitsCarrier b HasDirection) l → AllEdges (Both HasDirection (λ _. Unit {0})) l
  plain_ends [] a = tt
  plain_ends (e ∷ l) a = ((a.0, tt, tt), plain_ends l a.1)

  pub pieces_inside : (ring : List (At Corner Carrier)) → AllEdges (FitsCarrier b HasDirection) (ring_edges ring) → AllInBox b (piece_of b x ring)
  pieces_inside ring a =
      inside_ring (cut_by (side_of b x Bottom) r₃) (past_bottoms r₃ (past_right r₂ (past_top r₁ (past_left ring (plain_ends (ring_edges ring) a)))))
    where
      r₁ : List (At Corner Carrier)
      r₁ = cut_by (side_of b x Left) ring

      r₂ : List (At Corner Carrier)
      r₂ = cut_by (side_of b x Top) r₁

      r₃ : List (At Corner Carrier)
      r₃ = cut_by (side_of b x Right) r₂

  -- ---- no corner at infinity is left: one that has a direction is past a side
  meet_aimed : (s : SideName) (p q : Corner) (k : Carrier) → Aimed (meet_of b x s p q k)
  meet_aimed s p q (Bisector i j) e = absurd (false≢true e)
  meet_aimed s p q (Along o) e = absurd (false≢true e)
  meet_aimed Left p q Infinity e = go (x.upward p q)
    where
      go : (t : Bool) → HasDirection (cond t (upper_end b) (line_end b Left)).toward
      go true = inr (inl up_is)
      go false = inr (inr (inr down_is))
  meet_aimed Top p q Infinity e = inr (inr (inl down_is))
  meet_aimed Right p q Infinity e = inr (inr (inr down_is))
  meet_aimed Bottom p q Infinity e = inr (inr (inl down_is))

  stays_aimed : (s : SideName) (ring : List (At Corner Carrier)) → AllEdges AimedEdge (ring_edges ring) → AllEdges AimedEdge (ring_edges (cut_by (side_of b x s) ring))
  stays_aimed s = cut_edges (side_of b x s) AimedEdge AimedEdge Aimed
      (record {
        inner = λ p q k a v w. a;
        leaving = λ p q k a v w. ((a.0, meet_aimed s p q k), meet_aimed s p q k);
        entering = λ p q k a v w. ((meet_aimed s p q k, a.1), meet_aimed s p q k);
        side = λ m n l r. (l, r);
      })

  near_of : (p : Corner) → W₄ p → Aimed p → p.far ≡ false
  near_of p w aimed = go p.far refl
    where
      past : {A : Type 0} (t : Bool) → t ≡ false → t ≡ true → A
      past t e h = absurd (false≢true (sym e ∙ h))

      go : (f : Bool) → p.far ≡ f → p.far ≡ false
      go false e = e
      go true e =
          ⊎_elim
          (λ h. past (within_of b Left p) (low_out p.far p.toward.x b.left p.place.x e h) w.0.0.0)
          (⊎_elim
          (λ h. past (within_of b Top p) (low_out p.far p.toward.y b.top p.place.y e h) w.0.0.1)
          (⊎_elim
          (λ h. past (within_of b Right p) (high_out p.far p.toward.x b.right p.place.x e h) w.0.1)
          (λ h. past (within_of b Bottom p) (high_out p.far p.toward.y b.bottom p.place.y e h) w.1)))
          (aimed e)

  near_to : (e : Corner) (l : List (At Corner Carrier)) → AllEdges (Both (λ _. ⊥) W₄) (edges_to e l) → AllEdges AimedEdge (edges_to e l) → AllNear l
  near_to e [] a c = tt
  near_to e (v ∷ r) a c = (near_of v.corner a.0.1 c.0.0, near_to e r a.1 c.1)

  near_ring : (l : List (At Corner Carrier)) → AllEdges (Both (λ _. ⊥) W₄) (ring_edges l) → AllEdges AimedEdge (ring_edges l) → AllNear l
  near_ring [] a c = tt
  near_ring (v ∷ r) a c = near_to v.corner (v ∷ r) a c

  pub pieces_near : (ring : List (At Corner Carrier)) → AllEdges (FitsCarrier b HasDirection) (ring_edges ring) → AllEdges AimedEdge (ring_edges ring) → AllNear (left_over b x ring)
  pieces_near ring a c =
      near_ring (left_over b x ring) (past_bottoms r₃ (past_right r₂ (past_top r₁ (past_left ring (plain_ends (ring_edges ring) a)))))
      (stays_aimed Bottom r₃ (stays_aimed Right r₂ (stays_aimed Top r₁ (stays_aimed Left ring c))))
    where
      r₁ : List (At Corner Carrier)
      r₁ = cut_by (side_of b x Left) ring

      r₂ : List (At Corner Carrier)
      r₂ = cut_by (side_of b x Top) r₁

      r₃ : List (At Corner Carrier)
      r₃ = cut_by (side_of b x Right) r₂
