-- A build's answer and its lent slices give the text that is promised: a refusal's line by its number, or the lines of what was built.
use Rattle.std.specs.Prelude.{◌≡◌, ℕ, ◌+◌, ◌*◌, ◌/◌, ◌≤◌, List, map, length, take, slice_index, slice_index_or}
use Rattle.std.proofs.Common.{sym, ap, ◌∙◌, subst, arith, lit≤, length-append}
use Prim.{tt}
use Rattle.std.proofs.Math.ListN.{get_or-append}
use Rattle.std.proofs.Math.Seq.{take-append_seam}
use Rattle.plane.specs.points.Finite.{site_bounded, point_weaken}
use Rattle.plane.specs.points.Flat.{point_at, flat}
use Rattle.vertices.specs.laws.Points.{length_flat}
use Rattle.plane.specs.given.Finite.{Fits}
use Rattle.plane.specs.declared.given.Given.{Given}
use Rattle.mesh.specs.Accepted.{Mesh, Accepted, site_count}
use Rattle.mesh.specs.laws.Facts.{entry_site}
use Rattle.admission.specs.Slices.{Slices}
use Rattle.arguments.specs.asking.laws.Asks.{box_answers}
use Rattle.cell_memory.specs.layout.Regions.{joined, offsets_from}
use Rattle.cell_memory.specs.layout.laws.Compacted.{offsets_length}
use Rattle.definition.specs.declared.Fault.{Fault}
use Rattle.definition.specs.Fault.{Outcome, ok}
use Rattle.definition.specs.Build.{Built, build}
use Rattle.definition.specs.Cell.{unmarked}
use Rattle.definition.specs.Measures.{Room}
use Rattle.build_laws.specs.LateRefusals.{build_late}
use Rattle.build_laws.specs.laws.Runs.{ok_same}
use Rattle.building.specs.answers.Promise.{BuildAnswer, Build}
use Rattle.building.specs.answers.Success.{zero_succeeds, build_sound}
use Rattle.audit.specs.turns.Turned.{TrianglesKept}
use Rattle.form.specs.mesh.Read.{MeshSized}
use Rattle.printing.specs.Rooms.{vertex_room, index_room}
use Rattle.printing.specs.Printed.{OfMesh, shown}
use Rattle.printing.specs.laws.BuildText.{ProgramSlices, whole, text_of_mesh}
use Rattle.printing.specs.laws.BuiltSlices.{cells_of, offsets_after, indexes_after, vertices_after, offsets_are, indexes_are, vertices_are, counts_are, cells_are}
use Rattle.audit.specs.Printed.{audit_text}
use Rattle.audit.specs.Shown.{UsedParts, cut_told}
use Rattle.audit.specs.laws.Pieces.{pieces_named, pieces_kept, last_at}

turns_kept : {m : Mesh} → Accepted m → TrianglesKept m.sites m.triangles
turns_kept {m} a = record {
  named = entry_site a.topology;
  bounded = λ k h. point_weaken {i = 100} {j = 400} (lit≤ tt) (site_bounded (point_at m.sites (slice_index m.triangles k)) (a.coordinates (slice_index m.triangles k) (entry_site a.topology k h)));
}

-- ---- the slices after the number 0
module _ {Rules : ℕ → Type 0} {table : List ℕ} {o : Outcome Fault Built} {old new : Slices} {r : ℕ} (a : BuildAnswer Rules table o old new r) (b : Built) (e : o ≡ ok b) (z : r ≡ 0) where
  abbrev cells : List (List ℕ)
  cells = cells_of b

  pub many : slice_index_or new.counts 0 0 ≡ length b.verts
  many = rw (counts_are a b e z)

  pub numbers : 2 * slice_index new.counts 0 ≡ length (flat b.verts)
  numbers = omega (arith, many, length_flat b.verts)

  pub vertices_used : take (2 * slice_index new.counts 0) new.vertices ≡ flat b.verts
  vertices_used = rw (numbers, vertices_are a b e z) (take-append_seam (flat b.verts) (vertices_after old b))

  module _ (n : ℕ) (w : length b.cells ≡ n) where
    pub sites_are : length cells ≡ n
    sites_are = cells_are b w

    long : n + 1 ≡ length (offsets_from 0 cells)
    long = omega (arith, offsets_length 0 cells, sites_are)

    pub offsets_used : take (n + 1) new.offsets ≡ offsets_from 0 cells
    offsets_used = rw (long, offsets_are a b e z) (take-append_seam (offsets_from 0 cells) (offsets_after old b))

    pub end_at : slice_index_or new.offsets n 0 ≡ length (joined cells)
    end_at =
        ap (λ (l : List ℕ). slice_index l n) (offsets_are a b e z) ∙ get_or-append (offsets_from 0 cells) (offsets_after old b) 0 n (omega (arith, long))
        ∙ ap (λ (k : ℕ). slice_index (offsets_from 0 cells) k) (sym sites_are) ∙ last_at cells

    pub entries_used : take (slice_index new.offsets n) new.indexes ≡ joined cells
    entries_used = rw (end_at, indexes_are a b e z) (take-append_seam (joined cells) (indexes_after old b))

    pub offsets_long : n + 1 ≤ length new.offsets
    offsets_long = omega (arith, ap length (offsets_are a b e z), length-append (offsets_from 0 cells) (offsets_after old b), long)

    pub entries_long : slice_index_or new.offsets n 0 ≤ length new.indexes
    entries_long = omega (arith, ap length (indexes_are a b e z), length-append (joined cells) (indexes_after old b), end_at)

  pub vertices_long : 2 * slice_index new.counts 0 ≤ length new.vertices
  vertices_long = omega (arith, ap length (vertices_are a b e z), length-append (flat b.verts) (vertices_after old b), numbers)

-- ---- a build on lists within the form's limits, with slices of these lengths
module _ (m : Mesh) (sized : MeshSized (length m.sites) (length m.triangles) (length m.hull)) (old new : Slices) (long : ProgramSlices old) (r : ℕ)
    (g : Given) (fits : Fits g) (a : Build m g old new r) where
  abbrev n : ℕ
  n = site_count m.sites

  module _ (b : Built) (e : build m g.bounds ≡ ok b) (z : r ≡ 0) where
    abbrev pieces : List (List ℕ)
    pieces = map unmarked b.cells

    counted : length b.cells ≡ n
    counted = (whole m sized old long g a b e).cells

    -- each entry of a clipped cell is a vertex (`room` of build_laws/specs/Theorems)
    room : Room m.triangles m.hull g.bounds b
    room =
        let s = build_sound g fits a z in
        subst (Room m.triangles m.hull g.bounds) (ok_same (sym s.outcome.is ∙ e)) s.fits

    pub text_is : cut_told g.bounds m.sites m.triangles new.vertices new.offsets new.indexes new.counts ≡ audit_text m g b
    text_is = rw (vertices_used a b e z, offsets_used a b e z n counted, entries_used a b e z n counted)

    pub cut_ready : length new.vertices ≡ vertex_room → length new.indexes ≡ index_room
        → UsedParts g.bounds m.sites m.triangles new.vertices new.offsets new.indexes new.counts
    cut_ready wide short =
        let s = zero_succeeds (box_answers g.sound) (build_late m g.bounds) a z in
        let half : length (flat b.verts) / 2 ≡ length b.verts = omega (arith, length_flat b.verts) in
        let named = rw (← half) at (pieces_named _ (length m.triangles / 3) (length b.verts) (omega (arith, room.added)) b.cells room.placed) in
        record {
          few = omega (arith, vertices_long a b e z);
          vertices = vertices_long a b e z;
          offsets = offsets_long a b e z n counted;
          entries = entries_long a b e z n counted;
          ready = rw (vertices_used a b e z, offsets_used a b e z n counted, entries_used a b e z n counted) (record {
            box = fits.bounded s.admission.fit.0;
            few = sized.few_triangles;
            turns = turns_kept s.admission.accepted;
            named = named;
            kept = pieces_kept pieces m.sites (flat b.verts) (sites_are a b e z n counted) (omega (arith, sites_are a b e z n counted, sized.few_sites))
                (omega (arith, entries_long a b e z n counted, end_at a b e z n counted)) named;
          });
        }

  pub cut_of_mesh : length new.vertices ≡ vertex_room → length new.indexes ≡ index_room → r ≡ 0
      → UsedParts g.bounds m.sites m.triangles new.vertices new.offsets new.indexes new.counts
  cut_of_mesh wide short z = let o = (zero_succeeds (box_answers g.sound) (build_late m g.bounds) a z).outcome in cut_ready o.value o.is z wide short

  pub lines_of_mesh : OfMesh audit_text m g (shown (cut_told g.bounds m.sites m.triangles new.vertices new.offsets new.indexes new.counts) r)
  lines_of_mesh = text_of_mesh m sized old long g a audit_text _ (λ b e z. text_is b e z)
