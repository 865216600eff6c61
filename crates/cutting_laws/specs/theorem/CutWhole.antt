-- Theorems: pieces by cutting, of every mesh that rules 7 to 10 accept, whatever its triangles, every box that keeps rule 3, and any circumcenters, where the border's number is 0:
-- the exact areas of the pieces add up to exactly the box's (`cut_whole`; `cut_area`: twice its width times its height), and every place of a piece is in the box by exact comparison
-- (`cut_inside`). Whatever the border's number, two pieces that share an edge of the mesh have the same part of it, in opposite directions (`same_border`), and a cut ring has the parts
-- of its edges and what lies along the sides, nothing else (`border_parts`). Not only the area: any form of sides adds up to what it is round the box (`form_sum`).
use Rattle.std.specs.Prelude.{◌≡◌, refl, List, [], ◌∷◌, map, ℕ, ◌+◌, ◌-◌, ◌*◌, ◌<◌, Float, length, get_or}
use Rattle.std.proofs.Common.{ap, ◌∙◌, subst, arith}
use Rattle.plane.specs.points.Flat.{point_at}
use Rattle.plane.specs.declared.points.Point.{Point}
use Rattle.ring_area.specs.Steps.{gains_of, losses_of}
use Rattle.plane.specs.boxes.Box.{corners_of}
use Rattle.plane.specs.boxes.Finite.{BoundedBox}
use Rattle.plane.specs.declared.boxes.BoundingBox.{BoundingBox}
use Rattle.mesh.specs.Mesh.{leftmost_of}
use Rattle.mesh.specs.Accepted.{Topology}
use Rattle.mesh.specs.laws.Facts.{paired}
use Rattle.auditing.specs.limit.Limit.{box_twice}
use Rattle.audit_truth.specs.Exact.{apart_of}
use Rattle.audit_truth.specs.BoxTwice.{box_twice_lem}
use Rattle.cutting.specs.cuts.Numbers.{◌≈◌}
use Rattle.cutting.specs.cuts.Rings.{EdgeForm, sum_by, sum_over}
use Rattle.cutting.specs.cuts.Sides.{cut_all}
use Rattle.cutting.specs.cuts.Borders.{turned, part_sum, NothingAlong, part_back, cut_parts}
use Rattle.cutting.specs.cuts.Named.{EdgeName, out, named_ring}
use Rattle.cutting.specs.cuts.Whole.{Reversed}
use Rattle.cutting.specs.cuts.Written.{round}
use Rattle.cutting.specs.rings.Opposed.{opposite_name, pair_in, hull_in, out_reversed}
use Rattle.cutting.specs.rings.Counts.{site_names}
use Rattle.cutting.specs.corner.Corner.{circle_center}
use Rattle.cutting.specs.declared.corner.Corner.{Corner}
use Rattle.cutting.specs.declared.corner.Carrier.{Carrier}
use Rattle.cutting.specs.declared.corner.Carrier.TheVariants.{Infinity}
use Rattle.cutting.specs.sides.Area.{SideForm}
use Rattle.cutting.specs.sides.Kept.{Ordered}
use Rattle.cutting.specs.sides.Exact.{fences, piece_of, written_of, twice, twice_round, same_bisector}
use Rattle.cutting.specs.sides.Inside.{AllInBox, pieces_inside}
use Rattle.cutting.specs.sides.Alike.{area_form, twice_rounds}
use Rattle.cutting.specs.pen.Pen.{same_place}
use Rattle.cutting.specs.meet.Crossing.{crossings_of}
use Rattle.cutting.specs.meet.Meets.{crossings_both, crossings_between}
use Rattle.cutting.specs.whole.Whole.{bisector_of, pair_bisector, ring_fits, mesh_form}
use Rattle.cutting.specs.border.Border.{toward_of, hull_end, border_number}
use Rattle.cutting_laws.specs.theorem.MeshPieces.{numbers_from, mesh_edge, mesh_ring, piece_places, all_places, edge_part, across_from, all_gains, all_losses}
use Rattle.cutting_laws.specs.theorem.laws.InTurn.{each_once, each_below}
use Rattle.cutting_laws.specs.theorem.laws.NumberNone.{all_directed, turns_once}
use Rattle.cutting_laws.specs.theorem.laws.Placed.{written_in}

mapped_thrice : {A B C : Type 0} (f : B → C) (g : A → B) (h : ℕ → A) (l : List ℕ) → map f (map g (map h l)) ≡ map (λ s. f (g (h s))) l
mapped_thrice f g h [] = refl
mapped_thrice {C = C} f g h (s ∷ l) = ap (λ (z : List C). f (g (h s)) ∷ z) (mapped_thrice f g h l)

pub twice_parts : (p : List Point) → ((twice p).plus ≡ gains_of p) × ((twice p).minus ≡ losses_of p)
twice_parts [] = (refl, refl)
twice_parts (x ∷ p) = (refl, refl)

pub all_parts : (l : List (List Point)) → ((sum_by twice l).plus ≡ all_gains l) × ((sum_by twice l).minus ≡ all_losses l)
all_parts [] = (refl, refl)
all_parts (p ∷ l) = let t = twice_parts p in let r = all_parts l in (omega (arith, t.0, r.0), omega (arith, t.1, r.1))

module _ {tri he hull : List ℕ} {n : ℕ} (ok : Topology tri he hull n) (b : BoundingBox) (ordered : Ordered b) (sites centers : List Float)
    (none : border_number b sites tri hull (leftmost_of tri he n) centers ≡ 0)
  where
    -- any form of sides adds up to what it is round the box
    pub form_sum : (f : SideForm b) → sum_by (round f.of) (all_places sites tri he n centers b) ≈ round f.of (corners_of b)
    form_sum f =
        rw (← mapped_thrice (written_of b (crossings_of b sites)) (named_ring (mesh_edge sites tri he n centers)) (site_names ok) (numbers_from 0 n))
        (mesh_form ok (numbers_from 0 n) (each_once n) (each_below n) (point_at centers) (toward_of sites tri) b (all_directed ok b sites centers none) ordered (crossings_of b sites) f
        (crossings_both b sites) (turns_once ok b sites centers none (numbers_from 0 n) (each_once n) (each_below n)))

    pub whole_sum : sum_by twice (all_places sites tri he n centers b) ≈ twice (corners_of b)
    whole_sum = omega (arith, form_sum (area_form b), twice_rounds (all_places sites tri he n centers b), twice_round (corners_of b))

    pub cut_whole : all_gains (all_places sites tri he n centers b) + losses_of (corners_of b) ≡ gains_of (corners_of b) + all_losses (all_places sites tri he n centers b)
    cut_whole =
        let a = all_parts (all_places sites tri he n centers b) in
        let c = twice_parts (corners_of b) in
        omega (arith, whole_sum, a.0, a.1, c.0, c.1)

    pub cut_area : BoundedBox 101 b → all_gains (all_places sites tri he n centers b) - all_losses (all_places sites tri he n centers b)
        ≡ 2 * (apart_of b.right b.left * apart_of b.bottom b.top)
    unfolding box_twice
    cut_area bounded = go ∙ box_twice_lem b bounded ordered.across ordered.down
      where
        go : all_gains (all_places sites tri he n centers b) - all_losses (all_places sites tri he n centers b) ≡ gains_of (corners_of b) - losses_of (corners_of b)
        go = omega (arith, cut_whole)

    pub cut_inside : (s : ℕ) → s < n → AllInBox b (piece_places sites tri he n centers b s)
    cut_inside s l =
        written_in b same_place (piece_of b (crossings_of b sites) (mesh_ring sites tri he n centers s))
        (pieces_inside b ordered (crossings_of b sites) (crossings_between b sites ordered) (mesh_ring sites tri he n centers s)
        (ring_fits ok (numbers_from 0 n) (each_once n) (each_below n) (point_at centers) (toward_of sites tri) b (all_directed ok b sites centers none) s l))

module _ {tri he hull : List ℕ} {n : ℕ} (ok : Topology tri he hull n) (b : BoundingBox) (ordered : Ordered b) (sites centers : List Float) where
  opposite_is : (o : ℕ) → o < length he → opposite_name he (out o) ≡ across_from he o
  opposite_is o l = rw (hull_in tri he (paired ok) o l, pair_in tri he (paired ok) o l) refl

  reversed : (o : ℕ) → o < length he → Reversed (mesh_edge sites tri he n centers (out o)) (mesh_edge sites tri he n centers (across_from he o))
  reversed o l =
      subst (λ (e : EdgeName). Reversed (mesh_edge sites tri he n centers (out o)) (mesh_edge sites tri he n centers e)) (opposite_is o l)
      (out_reversed tri he (paired ok) (λ s. get_or (leftmost_of tri he n) s 0) (λ t. circle_center (point_at centers t) t) (hull_end sites tri centers) (bisector_of tri) Infinity
      (pair_bisector ok (numbers_from 0 n) (each_once n) (each_below n) (point_at centers) (toward_of sites tri)) o l)

  pub same_border : (o : ℕ) → o < length he → edge_part sites tri he n centers b (across_from he o) ≡ map turned (edge_part sites tri he n centers b (out o))
  same_border o l =
      let r = reversed o l in
      let m = mesh_edge sites tri he n centers (out o) in
      rw (r.from, r.to, r.on)
      (part_back (fences b (crossings_of b sites)) m.on (same_bisector b (crossings_of b sites) (crossings_both b sites) _ _) m.from m.to)

  pub border_parts : (s : ℕ) (g : EdgeForm Corner Carrier) → NothingAlong (fences b (crossings_of b sites)) g
      → sum_over g (cut_all (fences b (crossings_of b sites)) (mesh_ring sites tri he n centers s)) ≈ sum_over (part_sum (fences b (crossings_of b sites)) g) (mesh_ring sites tri he n centers s)
  border_parts s g nothing = cut_parts (fences b (crossings_of b sites)) g nothing (mesh_ring sites tri he n centers s)
