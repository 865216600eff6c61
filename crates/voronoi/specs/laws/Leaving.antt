-- Builds: one answers 0 exactly where it may, and then its slices hold what the definition makes; a site in no triangle has an empty cell there.
use Rattle.std.specs.Prelude.{◌≡◌, refl, true, List, [], ◌↔◌, ℕ, suc, ◌<◌, length, take}
use Rattle.std.proofs.Common.{ap, ◌∙◌}
use Rattle.plane.specs.given.Finite.{Fits}
use Rattle.plane.specs.declared.given.Given.{Given}
use Rattle.mesh.specs.Mesh.{Used}
use Rattle.mesh.specs.Accepted.{Mesh, table_of, site_count}
use Rattle.definition.specs.declared.Fault.{Fault}
use Rattle.definition.specs.Fault.{Outcome, ok}
use Rattle.definition.specs.Build.{Built, build}
use Rattle.definition.specs.laws.Gives.{gives_ok}
use Rattle.definition.specs.Cell.{plain, unmarked}
use Rattle.build_laws.specs.laws.VerticesFinite.{Each, FinitePoint, vertices_finite}
use Rattle.build_laws.specs.laws.CellCount.{cell_count}
use Rattle.build_laws.specs.laws.EmptyCell.{empty_cell}
use Rattle.building.specs.answers.Promise.{BuildAnswer}
use Rattle.admission.specs.Slices.{Slices}
use Rattle.build_laws.specs.LateRefusals.{build_late}
use Rattle.arguments.specs.asking.laws.Asks.{box_answers}
use Rattle.building.specs.answers.Success.{zero_succeeds, succeeds_zero}
use Rattle.building.specs.answers.laws.Left.{left_work, left_vertices, left_indexes, left_offsets, left_counts, slice_finite, read_part, read_place}
use Rattle.voronoi.specs.Builds.{Build, CellPart}
use Rattle.voronoi.specs.Leaves.{BuildAllowed, BuildLeaves}
use Rattle.voronoi.specs.laws.Hollow as hollow

leaves : {N : ℕ → Type 0} {table : List ℕ} {o : Outcome Fault Built} {old new : Slices} (n : ℕ) (b : Built) → o ≡ ok b → BuildAnswer N table o old new 0
    → Each FinitePoint b.verts → length b.cells ≡ n → BuildLeaves n table o old new
leaves n b is a fine many =
    let v = left_vertices a b is in
    let x = left_indexes a b is in
    let f = left_offsets a b is in
    record {
      made = b;
      is = is;
      vertices = v;
      indexes = x;
      offsets = f;
      counts = left_counts a b is;
      work = left_work a;
      numbers = slice_finite b.verts _ v fine;
      many = many;
      cell = λ s l. read_place b.cells n many _ _ f _ _ x s l;
      cell_part = λ s l. read_part b.cells n many _ _ f _ _ x s l;
    }

module _ (m : Mesh) {old new : Slices} where
  -- ---- in a box
  module _ (g : Given) where
    pub build_answers : {r : ℕ} → Build m g old new r → (r ≡ 0) ↔ BuildAllowed m (g.sound ≡ true) (build m g.bounds) old
    build_answers a = (
      λ z. let s = zero_succeeds (box_answers g.sound) (build_late m g.bounds) a z in
          record { mesh = s.admission.accepted; room = s.admission.roomed; in_box_lem = s.admission.fit.0; value = s.outcome },
      λ x. succeeds_zero (box_answers g.sound) (record { admission = record { accepted = x.mesh; roomed = x.room; fit = (x.in_box_lem, tt) }; outcome = x.value }) a,
    )

    pub build_leaves : Fits g → Build m g old new 0 → BuildLeaves (site_count m.sites) (table_of m) (build m g.bounds) old new
    build_leaves fits a =
        let s = zero_succeeds (box_answers g.sound) (build_late m g.bounds) a refl in
        let is = s.outcome.is in
        let fine = gives_ok (λ (r : Built). Each FinitePoint r.verts) (vertices_finite (fits.bounded s.admission.fit.0) m) is in
        leaves (site_count m.sites) s.outcome.value is a fine (gives_ok (λ (r : Built). length r.cells ≡ site_count m.sites) (cell_count m g.bounds) is)

    pub build_empty : Fits g → (s : ℕ) {part : List ℕ} {r : ℕ} → Build m g old new 0 → s < site_count m.sites → (Used m.triangles s → ⊥)
        → CellPart (take (suc (site_count m.sites)) new.offsets) new.indexes s part r → part ≡ []
    build_empty fits s a l none p =
        let x = build_leaves fits a in
        let t = zero_succeeds (box_answers g.sound) (build_late m g.bounds) a refl in
        (x.cell_part s l p).1 ∙ ap unmarked (empty_cell t.admission.accepted s none (fits.bounded t.admission.fit.0) x.is l)
