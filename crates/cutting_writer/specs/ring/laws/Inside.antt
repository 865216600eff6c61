-- No side cuts a ring that is bounded and lies wholly in the box (`uncut`), and of its circumcenters the pen takes entries alone; so what is written of it is the walk (`inside_made`), and
-- there is room for that (`inside_asks`).
use Rattle.std.specs.Prelude.{◌≡◌, true, ◌&&◌, List, [], ◌∷◌, map, Float, length}
use Rattle.std.proofs.Math.Path.{refl}
use Rattle.std.proofs.Common.{sym, ap, ◌∙◌, append-nil, arith, lt-ltb}
use Rattle.std.proofs.Math.Logic.{⊎_elim}
use Prim.Native.Nat.{ℕ, zero, suc, ◌+◌, ◌*◌, ◌/◌, ◌≤◌, ◌<◌}
use Rattle.std.specs.Float.Ieee.{le}
use Rattle.base.specs.common.laws.And.{and_left, and_right}
use Rattle.base.specs.common.laws.Decide.{lt_or_ge}
use Rattle.base.specs.numbers.Numbers.{EMPTY}
use Rattle.plane.specs.points.Flat.{point_at}
use Rattle.plane.specs.sides.Sides.{inside_of}
use Rattle.plane.specs.declared.points.Point.{Point}
use Rattle.plane.specs.declared.boxes.BoundingBox.{BoundingBox}
use Rattle.mesh.specs.Mesh.{turn_of, walk_of, whole_of}
use Rattle.mesh.specs.laws.WalkSteps.{walk_go, walk_done}
use Rattle.cutting.specs.cuts.Corners.{AllCorners, IsWithin, cut_untouched}
use Rattle.cutting.specs.cuts.Stream.{feed_all}
use Rattle.cutting.specs.corner.Corner.{within_of, circle_center}
use Rattle.cutting.specs.declared.corner.SideName.{SideName}
use Rattle.cutting.specs.declared.corner.SideName.TheVariants.{Left, Top, Right, Bottom}
use Rattle.cutting.specs.pen.Pen.{Page}
use Rattle.cutting.specs.pen.laws.Numbered.{inked_numbered, numbered_later}
use Rattle.cutting.specs.pen.Room.{Ready}
use Rattle.cutting_writer.specs.stream.Stages.{Ring, side_at, ink_at, cut_four}
use Rattle.cutting_writer.specs.stream.laws.Stages.{Grows, all_grows}
use Rattle.cutting_writer.specs.site.Ring.{out_at, last_or, site_ring}
use Rattle.cutting_writer.specs.site.laws.Walk.{no_walk, ray_none, far_none}
use Rattle.cutting_writer.specs.ring.Inside.{CentersInside, RingInside, out_on}

within_side : (b : BoundingBox) (p : Point) (n : ℕ) → inside_of b p ≡ true → (s : SideName) → within_of b s (circle_center p n) ≡ true
unfolding inside_of
within_side b p n h = go
  where
    across : (le b.left p.x && le p.x b.right) ≡ true
    across = and_left (le b.left p.x && le p.x b.right) (le b.top p.y && le p.y b.bottom) h

    down : (le b.top p.y && le p.y b.bottom) ≡ true
    down = and_right (le b.left p.x && le p.x b.right) (le b.top p.y && le p.y b.bottom) h

    go : (s : SideName) → within_of b s (circle_center p n) ≡ true
    go Left = and_left (le b.left p.x) (le p.x b.right) across
    go Top = and_left (le b.top p.y) (le p.y b.bottom) down
    go Right = and_right (le b.left p.x) (le p.x b.right) across
    go Bottom = and_right (le b.top p.y) (le p.y b.bottom) down

module _ (b : BoundingBox) (sites : List Float) (tri : List ℕ) (centers : List Float) where
  all_within : (s : SideName) (l : List ℕ) → CentersInside b centers l → AllCorners (IsWithin (side_at b sites s)) (map (out_at tri centers) l)
  all_within s [] a = tt
  all_within s (e ∷ l) a = (within_side b (point_at centers (e / 3)) (e / 3) a.0 s, all_within s l a.1)

  module _ (he : List ℕ) (t : ℕ) (x : RingInside b he centers t) where
    abbrev outs : Ring
    outs = map (out_at tri centers) (whole_of he t)

    ring_is : site_ring sites tri he centers t ≡ outs
    unfolding site_ring
    ring_is =
        rw (lt-ltb t (length he) x.there, ray_none sites tri he centers t x.begins, far_none sites tri he centers (last_or t (whole_of he t)) x.ends) (append-nil outs)

    pub uncut : cut_four b sites (site_ring sites tri he centers t) ≡ outs
    unfolding cut_four
    uncut = rw (
      ring_is,
      cut_untouched (side_at b sites Left) outs (all_within Left (whole_of he t) x.corners),
      cut_untouched (side_at b sites Top) outs (all_within Top (whole_of he t) x.corners),
      cut_untouched (side_at b sites Right) outs (all_within Right (whole_of he t) x.corners),
    ) (cut_untouched (side_at b sites Bottom) outs (all_within Bottom (whole_of he t) x.corners))

pub outs_grow : Grows (λ (g : Page). g) out_on
outs_grow g e = numbered_later g (point_at g.vertices (e / 3)) (e / 3)

module _ (b : BoundingBox) (tri he : List ℕ) (centers t : ℕ) (thirds : length he ≤ 3 * centers) (small : length he < EMPTY) where
  outs_on : (k e : ℕ) (g : Page) → centers + 4 ≤ g.pen.count
      → feed_all (ink_at b centers) g (map (out_at tri g.vertices) (walk_of he t k e)) ≡ feed_all out_on g (walk_of he t k e)
  unfolding ink_at
  outs_on zero e g many = rw (no_walk he t e) refl
  outs_on (suc k) e g many =
      ⊎_elim
      (λ l. rw (walk_go he t k e l)
      (ap (λ (h : Page). feed_all (ink_at b centers) h (map (out_at tri g.vertices) (walk_of he t k (turn_of he t e))))
      (inked_numbered g (point_at g.vertices (e / 3)) (e / 3) b centers (omega arith) (omega arith))
      ∙ outs_on k (turn_of he t e) (out_on g e) (omega (arith, (outs_grow g e).count))))
      (λ l. rw (walk_done he t (suc k) e l) refl)
      (lt_or_ge e (length he))

  module _ (sites : List Float) (g : Page) (r : Ready centers g (feed_all (ink_at b centers) g (cut_four b sites (site_ring sites tri he g.vertices t))))
      (x : RingInside b he g.vertices t)
    where
      as_walked : feed_all (ink_at b centers) g (cut_four b sites (site_ring sites tri he g.vertices t)) ≡ feed_all out_on g (whole_of he t)
      as_walked = ap (feed_all (ink_at b centers) g) (uncut b sites tri g.vertices he t x) ∙ outs_on (length he) t g r.corners

      pub inside_asks : (feed_all out_on g (whole_of he t)).pen.at ≤ length g.indexes
      inside_asks =
          let room : Ready centers g (feed_all out_on g (whole_of he t)) = rw as_walked at r in
          omega (arith, room.room.indexes, (all_grows (λ (g : Page). g) out_on outs_grow g (whole_of he t)).entries)

      pub inside_made : (y : Page) → y ≡ feed_all out_on g (whole_of he t) → y ≡ feed_all (ink_at b centers) g (cut_four b sites (site_ring sites tri he g.vertices t))
      inside_made y e = e ∙ sym as_walked
