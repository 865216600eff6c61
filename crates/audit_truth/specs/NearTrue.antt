-- Theorem: after kind 0 of an audit that answers 0, no corner of a piece is nearer to a site that the piece is held against than to its own, but for the tolerance and the roundings
-- (`NotNearer`), on the exact squared distances. Where both sites are in the box or about it, at most its height to the left or right of it and at most its width above or below,
-- the roundings are 2 ^ -49 of what the tolerance is a part of (`near_true`); farther off they grow with the distance (`near_reach`).
use Rattle.std.specs.Prelude.{◌≡◌, Bool, ◌&&◌, List, ℕ, ◌+◌, ◌-◌, ◌*◌, ◌/◌, ◌≤◌, ◌<◌, T, Float, length, get_or}
use Rattle.std.proofs.Math.Path.{refl, sym}
use Rattle.std.proofs.Math.Bool.{true, false, not}
use Prim.{tt}
use Rattle.std.proofs.Common.{le_refl, le_trans, le_of_eq, add_comm, arith, lit≤, rules as by_rules}
use Rattle.std.specs.Float.{binary64}
use Rattle.std.specs.Float.Ieee.{fits, le}
use Rattle.std.specs.Float.Ieee.Fits.{add-fits, sub-fits}
use Rattle.std.specs.Float.Ieee.Scale.{finite}
use Rattle.base.specs.common.Binary64.{◌⊘◌, two}
use Rattle.base.specs.common.laws.And.{and_left, and_right}
use Rattle.base.specs.common.laws.Refusals.{finds_keep}
use Rattle.ring_area.specs.lowest.laws.Loops.{none_taken}
use Rattle.plane.specs.points.Finite.{point_weaken, site_bounded}
use Rattle.plane.specs.points.Flat.{point_at}
use Rattle.plane.specs.declared.points.Point.{Point}
use Rattle.plane.specs.boxes.Box.{made_of}
use Rattle.plane.specs.sides.Sides.{inside_of}
use Rattle.plane.specs.declared.boxes.BoundingBox.{BoundingBox}
use Rattle.plane.specs.given.Finite.{Fits}
use Rattle.plane.specs.given.Given.{edges_of}
use Rattle.plane.specs.declared.given.Given.{Given}
use Rattle.walks.specs.shared.Cells.{cell_of}
use Rattle.areas.specs.laws.Entries.{cell_corners}
use Rattle.auditing.specs.corners.Outside.{outside_at, cell_outside}
use Rattle.auditing.specs.nearer.Nearer.{far_of, beyond, no_lists, other_at, held_count, beyond_at, nearer_at, corner_nearer, cell_nearer, site_nearer}
use Rattle.auditing.specs.nearer.laws.Pieces.{held_names, other_site}
use Rattle.auditing.specs.rules.Kept.{AuditKept, kept}
use Rattle.auditing.specs.total.Total.{apart}
use Rattle.auditing.specs.Promise.{AuditAnswer}
use Rattle.auditing.specs.Sound.{none_outside, none_nearer, sound_verdict}
use Rattle.audit_truth.specs.Exact.{plus_units, minus_units, over_of, apart_of, across_and_down}
use Rattle.audit_truth.specs.Held.{HeldPoint, HeldBox, AllHeld, HeldEdges}
use Rattle.audit_truth.specs.Near.{WithinReach, NotNearer, near_exact}
use Rattle.audit_truth.specs.laws.Parts.{not_over, le_turned}
use Rattle.audit_truth.specs.laws.Sides.{held_finite, box_far}

-- ---- a box by its center and size has such edges, and one by its edges has these
pub size_held : (c : Point) (w h : Float) → HeldEdges (made_of c w h)
unfolding made_of
size_held c w h = record {
  left = sub-fits binary64 c.x (w ⊘ two);
  right = add-fits binary64 c.x (w ⊘ two);
  top = sub-fits binary64 c.y (h ⊘ two);
  bottom = add-fits binary64 c.y (h ⊘ two);
}

pub edges_held : (l t r b : Float) → T (fits binary64 l) → T (fits binary64 t) → T (fits binary64 r) → T (fits binary64 b) → HeldEdges (edges_of l t r b)
unfolding edges_of
edges_held l t r b x y z w = record { left = x; right = z; top = y; bottom = w }

-- ---- the box and what is about it
pub record AboutBox (b : BoundingBox) (p : Point) : Type 0 where
  pub left : over_of b.left p.x ≤ apart_of b.bottom b.top
  pub right : over_of p.x b.right ≤ apart_of b.bottom b.top
  pub top : over_of b.top p.y ≤ apart_of b.right b.left
  pub bottom : over_of p.y b.bottom ≤ apart_of b.right b.left

-- in the box
record InBox (b : BoundingBox) (p : Point) : Type 0 where
  left : plus_units b.left + minus_units p.x ≤ minus_units b.left + plus_units p.x
  right : plus_units p.x + minus_units b.right ≤ minus_units p.x + plus_units b.right
  top : plus_units b.top + minus_units p.y ≤ minus_units b.top + plus_units p.y
  bottom : plus_units p.y + minus_units b.bottom ≤ minus_units p.y + plus_units b.bottom

in_box_lem : (b : BoundingBox) (p : Point) → HeldBox b → HeldPoint p → inside_of b p ≡ true → InBox b p
unfolding inside_of
in_box_lem b p h g e =
    let x = le b.left p.x && le p.x b.right in
    let y = le b.top p.y && le p.y b.bottom in
    let ex = and_left x y e in
    let ey = and_right x y e in
    record {
      left = one b.left p.x (held_finite h.left) (held_finite g.x) (and_left (le b.left p.x) (le p.x b.right) ex);
      right = one p.x b.right (held_finite g.x) (held_finite h.right) (and_right (le b.left p.x) (le p.x b.right) ex);
      top = one b.top p.y (held_finite h.top) (held_finite g.y) (and_left (le b.top p.y) (le p.y b.bottom) ey);
      bottom = one p.y b.bottom (held_finite g.y) (held_finite h.bottom) (and_right (le b.top p.y) (le p.y b.bottom) ey);
    }
  where
    one : (x y : Float) → T (finite x) → T (finite y) → le x y ≡ true → plus_units x + minus_units y ≤ minus_units x + plus_units y
    one x y f g e = not_over x y f g (le_turned x y e)

-- what is in the box is about it
pub inside_about : (b : BoundingBox) (p : Point) → HeldBox b → HeldPoint p → inside_of b p ≡ true → AboutBox b p
inside_about b p h g e = let i = in_box_lem b p h g e in record { left = none _ _ _ i.left; right = none _ _ _ i.right; top = none _ _ _ i.top; bottom = none _ _ _ i.bottom }
  where
    none : (a c d : ℕ) → a ≤ c → a - c ≤ d
    none a c d h = omega arith

-- and from a corner in the box to what is about it is at most its width and height together
within_size : (b : BoundingBox) (v p : Point) → InBox b v → AboutBox b p → WithinReach (across_and_down b) v p
within_size b v p i a = record {
  x = span (plus_units v.x) (minus_units v.x) (plus_units p.x) (minus_units p.x) (plus_units b.left) (minus_units b.left) (plus_units b.right) (minus_units b.right) _ i.left
      i.right a.left a.right;
  y = le_trans
      (span (plus_units v.y) (minus_units v.y) (plus_units p.y) (minus_units p.y) (plus_units b.top) (minus_units b.top) (plus_units b.bottom) (minus_units b.bottom) _ i.top
      i.bottom a.top a.bottom)
      (le_of_eq (add_comm (apart_of b.bottom b.top) (apart_of b.right b.left)));
}
  where
    far : (v v' p p' l l' r r' w h : ℕ) → l + v' ≤ l' + v → v + r' ≤ v' + r → l + p' - (l' + p) ≤ h → p + r' - (p' + r) ≤ h
        → r + l' ≤ r' + l + w → apart (v + p') (v' + p) ≤ w + h
    far v v' p p' l l' r r' w h a c d e f = omega arith

    span : (v v' p p' l l' r r' h : ℕ) → l + v' ≤ l' + v → v + r' ≤ v' + r → l + p' - (l' + p) ≤ h → p + r' - (p' + r) ≤ h
        → apart (v + p') (v' + p) ≤ apart (r + l') (r' + l) + h
    span v v' p p' l l' r r' h a c d e = far v v' p p' l l' r r' (apart (r + l') (r' + l)) h a c d e (omega arith)

-- ---- of an audit
module _ {g : Given} {sites v : List Float} {off ix starts others : List ℕ} {bits k s c o : ℕ} {m : Float} (a : AuditAnswer g sites v off ix starts others bits 0 k s c o m) (z : k ≡ 0)
    (given : Fits g) (edges : HeldEdges g.bounds) (sites_held : AllHeld sites) (corners_held : AllHeld v) where
  rules : AuditKept g.sound sites v off ix starts others bits
  rules = kept a.number refl

  box_held : HeldBox g.bounds
  box_held =
      let h = given.bounded rules.box in
      record {
        left = record { held = edges.left; bounded = h.left };
        right = record { held = edges.right; bounded = h.right };
        top = record { held = edges.top; bounded = h.top };
        bottom = record { held = edges.bottom; bounded = h.bottom };
      }

  site_held : (i : ℕ) → i < length sites / 2 → HeldPoint (point_at sites i)
  site_held i h =
      let p = point_weaken {j = 400} (lit≤ tt) (site_bounded (point_at sites i) ((finds_keep (λ r. r ≡ 0) (search by_rules) refl a.number.found).1.1.0 i h)) in
      record { x = record { held = sites_held (2 * i); bounded = p.x }; y = record { held = sites_held (2 * i + 1); bounded = p.y } }

  -- corner i of the piece of a site
  module _ (site i : ℕ) (S : site < length sites / 2) (I : i < length (cell_of off ix site)) where
    abbrev corner : Point
    corner = point_at v (get_or (cell_of off ix site) i 0)

    corner_held : HeldPoint corner
    corner_held =
        let p = (cell_corners rules.rings site (omega (arith, rules.pieces.cut.many))).bounded i I in
        record { x = record { held = corners_held _; bounded = p.x }; y = record { held = corners_held _; bounded = p.y } }

    corner_in_lem : InBox g.bounds corner
    unfolding cell_outside outside_at
    corner_in_lem =
        in_box_lem g.bounds corner box_held corner_held
        (inside (inside_of g.bounds corner) (none_taken (outside_at g.bounds v (cell_of off ix site)) (length (cell_of off ix site))
        (none_outside g.bounds bits sites starts others v off ix (sound_verdict a z) site S) i I))
      where
        inside : (t : Bool) → not t ≡ false → t ≡ true
        inside true e = refl
        inside false e = sym e

    -- against place j of what it is held against
    module _ (j : ℕ) (J : j < held_count (no_lists starts others) (cell_of starts others site) (length sites / 2)) where
      abbrev other : ℕ
      other = other_at (no_lists starts others) (cell_of starts others site) j

      not_beyond : beyond (far_of g.bounds bits) corner (point_at sites site) (point_at sites other) ≡ false
      unfolding site_nearer cell_nearer corner_nearer nearer_at beyond_at
      not_beyond =
          let far = far_of g.bounds bits in
          let cell = cell_of off ix site in
          let part = cell_of starts others site in
          let all = no_lists starts others in
          none_taken (beyond_at far corner sites site part all) (held_count all part (length sites / 2))
          (none_taken (corner_nearer far sites site part all v cell) (length cell) (none_nearer g.bounds bits sites starts others v off ix (sound_verdict a z) site S) i I) j J

      pub near_reach : (r : ℕ) → across_and_down g.bounds ≤ r → WithinReach r corner (point_at sites site) → WithinReach r corner (point_at sites other)
          → NotNearer g.bounds bits r corner (point_at sites site) (point_at sites other)
      near_reach r wide x y =
          let there = other_site (no_lists starts others) (cell_of starts others site) (length sites / 2) j refl J (held_names rules.held site S refl refl).named in
          near_exact (box_far g.bounds box_held bits rules.fine) corner (point_at sites site) (point_at sites other) corner_held (site_held site S) (site_held other there) r wide x y not_beyond

      pub near_true : AboutBox g.bounds (point_at sites site) → AboutBox g.bounds (point_at sites other)
          → NotNearer g.bounds bits (across_and_down g.bounds) corner (point_at sites site) (point_at sites other)
      near_true x y =
          near_reach (across_and_down g.bounds) (le_refl (across_and_down g.bounds)) (within_size g.bounds corner (point_at sites site) corner_in_lem x)
          (within_size g.bounds corner (point_at sites other) corner_in_lem y)
