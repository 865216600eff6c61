-- Laws: while a ring is cut each edge fits its carrier, and every corner at infinity has a direction, of fewer that are left past each side (`headed_left`, `headed_top`, `headed_right`).
use Rattle.std.specs.Prelude.{◌≡◌, refl, true, List, ◌⊎◌}
use Rattle.std.proofs.lemmas.Bool.{false≢true}
use Rattle.std.proofs.Common.{inl, inr}
use Rattle.plane.specs.declared.points.Point.{Point}
use Rattle.plane.specs.declared.boxes.BoundingBox.{BoundingBox}
use Rattle.cutting.specs.cuts.Rings.{At, ring_edges}
use Rattle.cutting.specs.cuts.Cut.{cut_by}
use Rattle.cutting.specs.cuts.Edges.{AllEdges, cut_edges}
use Rattle.cutting.specs.corner.Corner.{within_of, Crossings, meet_of, side_of}
use Rattle.cutting.specs.declared.corner.SideName.{SideName}
use Rattle.cutting.specs.declared.corner.SideName.TheVariants.{Left, Top, Right}
use Rattle.cutting.specs.declared.corner.Corner.{Corner}
use Rattle.cutting.specs.declared.corner.Carrier.{Carrier}
use Rattle.cutting.specs.declared.corner.Carrier.TheVariants.{Bisector, Along, Infinity}
use Rattle.cutting.specs.sides.Area.{LiesOn}
use Rattle.cutting.specs.sides.Kept.{Ordered, Downward, DownOrRight, NotLeft, HasDirection, Far, FitsCarrier}
use Rattle.cutting.specs.sides.laws.Keeping.{down_is, inner, leaving, entering, stays_left, ends_left, stays_top, stays_right}

-- a corner at infinity has a direction of which H holds
abbrev pub Heads : (Point → Type 0) → Corner → Type 0
Heads H p = p.far ≡ true → H p.toward

-- an edge fits its carrier, and both its ends have directions where they are at infinity
abbrev pub HeadedEdge : BoundingBox → (Point → Type 0) → Corner → Corner → Carrier → Type 0
HeadedEdge b H p q k = FitsCarrier b H p q k × (Heads H p × Heads H q)

module _ (b : BoundingBox) (ordered : Ordered b) (x : Crossings) where
  module _ (s : SideName) (H H' : Point → Type 0) (stays : (p : Corner) → Far H p → within_of b s p ≡ true → Far H' p)
      (ends : (p q : Corner) → Far H p → Far H q → (within_of b s p ≡ true) ⊎ (within_of b s q ≡ true) → Far H' (meet_of b x s p q Infinity) × LiesOn b s (meet_of b x s p q Infinity))
    where
      still : (p : Corner) → Heads H p → within_of b s p ≡ true → Heads H' p
      still p h v e = (stays p (e, h e) v).1

      meeting : (p q : Corner) (k : Carrier) → FitsCarrier b H p q k → (within_of b s p ≡ true) ⊎ (within_of b s q ≡ true) → Heads H' (meet_of b x s p q k)
      meeting p q (Bisector i j) f w e = absurd (false≢true e)
      meeting p q (Along o) f w e = absurd (false≢true e)
      meeting p q Infinity f w e = (ends p q f.0 f.1 w).0.1

      keeps_headed : (ring : List (At Corner Carrier)) → AllEdges (HeadedEdge b H) (ring_edges ring) → AllEdges (HeadedEdge b H') (ring_edges (cut_by (side_of b x s) ring))
      keeps_headed = cut_edges (side_of b x s) (HeadedEdge b H) (HeadedEdge b H') (λ c. LiesOn b s c × Heads H' c) (record {
        inner = λ p q k f v w. (inner b ordered x s H H' stays ends p q k f.0 v w, (still p f.1.0 v, still q f.1.1 w));
        leaving = λ p q k f v w.
            let c = leaving b ordered x s H H' stays ends p q k f.0 v w in
            let m = meeting p q k f.0 (inl v) in
            ((c.0, (still p f.1.0 v, m)), (c.1, m));
        entering = λ p q k f v w.
            let c = entering b ordered x s H H' stays ends p q k f.0 v w in
            let m = meeting p q k f.0 (inr w) in
            ((c.0, (m, still q f.1.1 w)), (c.1, m));
        side = λ m n l r. ((l.0, r.0), (l.1, r.1));
      })

  pub headed_left : (ring : List (At Corner Carrier)) → AllEdges (HeadedEdge b HasDirection) (ring_edges ring) → AllEdges (HeadedEdge b NotLeft) (ring_edges (cut_by (side_of b x Left) ring))
  headed_left = keeps_headed Left HasDirection NotLeft (stays_left b ordered x) (λ p q _ _ _. ends_left b ordered x p q)

  pub headed_top : (ring : List (At Corner Carrier)) → AllEdges (HeadedEdge b NotLeft) (ring_edges ring) → AllEdges (HeadedEdge b DownOrRight) (ring_edges (cut_by (side_of b x Top) ring))
  headed_top = keeps_headed Top NotLeft DownOrRight (stays_top b ordered x) (λ p q _ _ _. ((refl, inl down_is), (refl, refl)))

  pub headed_right : (ring : List (At Corner Carrier)) → AllEdges (HeadedEdge b DownOrRight) (ring_edges ring) → AllEdges (HeadedEdge b Downward) (ring_edges (cut_by (side_of b x Right) ring))
  headed_right = keeps_headed Right DownOrRight Downward (stays_right b ordered x) (λ p q _ _ _. ((refl, down_is), (refl, refl)))
