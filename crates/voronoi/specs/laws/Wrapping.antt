-- Wrapping in the slices of a build that answers 0: the definition's marked cells are the ones that are asked for, and the counts are read off them.
use Rattle.std.specs.Prelude.{◌≡◌, refl, ◌∷◌, ℕ, suc, ◌+◌, ◌/◌, ◌<◌, length, get_or, drop}
use Rattle.std.proofs.Common.{sym, ap, ◌∙◌, arith}
use Rattle.plane.specs.points.Flat.{point_at}
use Rattle.plane.specs.given.Finite.{Fits}
use Rattle.plane.specs.declared.given.Given.{Given}
use Rattle.mesh.specs.Accepted.{Mesh, Accepted, table_of, site_count}
use Rattle.plane.specs.boxes.Box.{corners_of}
use Rattle.plane.specs.boxes.Finite.{BoundedBox}
use Rattle.definition.specs.Cell.{plain, wrapped}
use Rattle.definition.specs.Fault.{ok}
use Rattle.definition.specs.Build.{owners_from, Built, build}
use Rattle.definition.specs.laws.Gives.{gives_ok}
use Rattle.build_laws.specs.Wrapping.{Wrapping}
use Rattle.build_laws.specs.laws.CellCount.{cell_count, CellsTallied, tallied, four_owners}
use Rattle.build_laws.specs.laws.CornersAt.{Cornered, cornered}
use Rattle.build_laws.specs.laws.OwnerPaths.{owner_path}
use Rattle.admission.specs.Slices.{Slices}
use Rattle.build_laws.specs.LateRefusals.{build_late}
use Rattle.arguments.specs.asking.laws.Asks.{box_answers}
use Rattle.building.specs.answers.Success.{zero_succeeds, build_sound}
use Rattle.building.specs.answers.laws.Left.{left_vertices, left_indexes, left_offsets, left_counts, slice_point, count_owner, count_before, count_lost}
use Rattle.voronoi.specs.Builds.{Build}
use Rattle.voronoi.specs.Wraps.{Wraps}
use Rattle.voronoi.specs.laws.Hollow as hollow
use Rattle.voronoi.specs.laws.Walking.{approaches}

module _ (m : Mesh) (g : Given) (fits : Fits g) {old new : Slices} (a : Build m g old new 0) where
  module _ (sound : Accepted m) (box : BoundedBox 101 g.bounds) (b : Built)
      (is : build m g.bounds ≡ ok b) (v : Wrapping m g.bounds b) where
    seen : CellsTallied m g.bounds b
    seen = gives_ok (CellsTallied m g.bounds) (tallied m g.bounds) is

    four : length b.owners ≡ 4
    four = four_owners m g.bounds seen

    owner : (i : ℕ) → i < 4 → get_or new.counts (suc i) 0 ≡ get_or b.owners i 0
    owner i l = ap (λ x. get_or x (suc i) 0) (left_counts a b is) ∙ count_owner (length b.verts) b.owners b.lost _ _ four i l

    before : (i : ℕ) → i < 4 → get_or (get_or m.hull 0 0 ∷ drop 1 new.counts) i 0 ≡ get_or (get_or m.hull 0 0 ∷ b.owners) i 0
    before i l = ap (λ x. get_or (get_or m.hull 0 0 ∷ drop 1 x) i 0) (left_counts a b is) ∙ count_before (length b.verts) b.owners b.lost _ _ four (get_or m.hull 0 0) i l

    wraps_of : Wraps m g.bounds old new
    wraps_of =
        let at = gives_ok (Cornered (length m.triangles / 3) g.bounds) (cornered sound g.bounds) is in
        record {
          marked = b.cells;
          made = b;
          is = is;
          marked_is = refl;
          many = gives_ok (λ (r : Built). length r.cells ≡ site_count m.sites) (cell_count m g.bounds) is;
          indexes = left_indexes a b is;
          offsets = left_offsets a b is;
          corners = λ i l. ap (λ x. point_at x (length m.triangles / 3 + i)) (left_vertices a b is)
              ∙ slice_point b.verts _ (length m.triangles / 3 + i) (omega (arith, at.0)) ∙ at.1 i l;
          once = v.once;
          by_owner = λ i s l o. v.there i s l o ∙ sym (v.owners i l) ∙ sym (owner i l);
          corners_alone = v.corners;
          owners = λ i l.
              let x = owner_path sound box i l in
              let from = before i l ∙ ap (λ os. get_or (get_or m.hull 0 0 ∷ os) i 0) seen.found in
              record { path = x.0; approaches = rw from (approaches x.1); last = owner i l ∙ ap (λ os. get_or os i 0) seen.found ∙ x.2 };
          lost = ap (λ x. get_or x 5 0) (left_counts a b is) ∙ count_lost (length b.verts) b.owners b.lost _ _ four ∙ seen.lost;
        }

  pub build_wraps : Wraps m g.bounds old new
  build_wraps =
      let s = zero_succeeds (box_answers g.sound) (build_late m g.bounds) a refl in
      let t = build_sound g fits a refl in
      wraps_of s.admission.accepted (fits.bounded s.admission.fit.0) t.outcome.value t.outcome.is t.wraps

-- the owners in the counts, whatever the box's edges are
pub build_owner : (m : Mesh) (g : Given) {old new : Slices} → Build m g old new 0 → (c : ℕ) → c < 4
    → get_or new.counts (suc c) 0 ≡ get_or (owners_from m.sites m.triangles m.halfedges (table_of m) (site_count m.sites) (get_or m.hull 0 0) (corners_of g.bounds)) c 0
build_owner m g a c l =
    let s = zero_succeeds (box_answers g.sound) (build_late m g.bounds) a refl in
    let b = s.outcome.value in
    let seen = gives_ok (CellsTallied m g.bounds) (tallied m g.bounds) s.outcome.is in
    ap (λ x. get_or x (suc c) 0) (left_counts a b s.outcome.is) ∙ count_owner (length b.verts) b.owners b.lost _ _ (four_owners m g.bounds seen) c l
    ∙ ap (λ os. get_or os c 0) seen.found
