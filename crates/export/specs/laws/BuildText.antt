-- A build's answer and its lent slices give the text that is promised: a refusal's line by its number, or the lines of what was built.
use Rattle.std.specs.Prelude.{◌≡◌, ℕ, ◌/◌, ◌≤◌, ◌<◌, length, get_or}
use Rattle.std.proofs.Math.Path.{ap}
use Rattle.std.proofs.Common.{subst, arith}
use mathlib.Core.List.{List, [], ◌++◌}
use Rattle.std.proofs.lemmas.List.{length-map}
use Rattle.std.proofs.Math.ListN.{get_or-map}
use Rattle.plane.specs.points.Flat.{flat}
use Rattle.plane.specs.given.Finite.{Fits}
use Rattle.plane.specs.declared.given.Given.{Given}
use Rattle.vertices.specs.laws.Points.{length_flat}
use Rattle.mesh.specs.Accepted.{Mesh, site_count}
use Rattle.admission.specs.Slices.{Slices}
use Rattle.arguments.specs.asking.laws.Asks.{box_answers}
use Rattle.arguments.specs.entries.Named.{EntriesNamed}
use Rattle.cell_memory.specs.layout.Regions.{joined}
use Rattle.definition.specs.declared.Fault.{Fault}
use Rattle.definition.specs.Fault.{Outcome, ok}
use Rattle.definition.specs.Build.{Built, build}
use Rattle.definition.specs.Cell.{unmarked}
use Rattle.build_laws.specs.LateRefusals.{build_late}
use Rattle.building.specs.answers.Promise.{BuildAnswer, Build}
use Rattle.building.specs.answers.Success.{zero_succeeds, build_sound}
use Rattle.wkb.specs.Polygon.{patterns}
use Rattle.wkb.specs.Promise.{image}
use Rattle.form.specs.Limits.{most_sites}
use Rattle.form.specs.mesh.Read.{MeshSized}
use Rattle.printing.specs.Printed.{OfMesh, shown}
use Rattle.printing.specs.Rooms.{vertex_room, index_room}
use Rattle.printing.specs.laws.WholeBuild.{Whole}
use Rattle.printing.specs.laws.BuildText.{ProgramSlices, whole, text_of_mesh}
use Rattle.printing.specs.laws.BuiltSlices.{cells_of, offsets_after, indexes_after, offsets_are, indexes_are, vertices_are, cells_are}
use Rattle.export.specs.map_text.MapText.{heading, map_text}
use Rattle.export.specs.Printed.{export_text, exported}
use Rattle.export.specs.Shown.{CanDraw, lines}
use Rattle.export.specs.laws.CellsInIndexes.{lines_are, can_draw}
use Rattle.export.specs.laws.Drawing.{same_image, padded_same, placed_named, Drawable}

-- one outcome has one value
ok_one : {o : Outcome Fault Built} {b c : Built} → o ≡ ok b → o ≡ ok c → b ≡ c
ok_one p q = cc

-- ---- the slices after the number 0
module _ {Rules : ℕ → Type 0} {table : List ℕ} {o : Outcome Fault Built} {old new : Slices} {r n : ℕ} (a : BuildAnswer Rules table o old new r)
    (b : Built) (w : Whole n b) (d : Drawable b) (e : o ≡ ok b) (z : r ≡ 0) where
  abbrev cells : List (List ℕ)
  cells = cells_of b

  cell_is : (k : ℕ) → k < length cells → get_or cells k [] ≡ unmarked (get_or b.cells k [])
  cell_is k h = get_or-map unmarked b.cells k []

  named_at : (k : ℕ) → k < length cells → EntriesNamed (get_or cells k []) (length b.verts)
  named_at k h = rw (cell_is k h) (d.named k (omega (arith, length-map b.cells unmarked)))

  pub laid_out : n ≤ most_sites → length new.indexes ≡ index_room → CanDraw n vertex_room new.offsets new.indexes
  laid_out few short =
      let q : length (joined cells ++ indexes_after old b) ≤ index_room = omega (arith, ap length (indexes_are a b e z)) in
      rw (offsets_are a b e z, indexes_are a b e z, ← cells_are b w.cells)
      (can_draw cells (offsets_after old b) (indexes_after old b) vertex_room (omega (arith, cells_are b w.cells)) q (λ k h. record { each = λ j l. omega (arith, (named_at k h).each j l, d.room) }))

  same : (k : ℕ) → k < length cells → image (patterns new.vertices) (get_or cells k []) ≡ image (patterns (flat b.verts)) (get_or cells k [])
  same k h =
      same_image _ _ (get_or cells k []) (length b.verts) (named_at k h)
      (λ j l. rw (vertices_are a b e z) (padded_same (flat b.verts) _ j (omega (arith, length_flat b.verts))))

  pub lines_text : lines n new.vertices new.offsets new.indexes ≡ exported b
  unfolding map_text
  lines_text = ap (λ (l : List ℕ). heading ++ l) (rw (offsets_are a b e z, indexes_are a b e z, ← cells_are b w.cells) (lines_are cells (offsets_after old b) (indexes_after old b) _ _ same))

-- ---- a build on lists within the form's limits, with slices of a program's lengths
module _ (m : Mesh) (sized : MeshSized (length m.sites) (length m.triangles) (length m.hull)) (old new : Slices) (long : ProgramSlices old) (r : ℕ)
    (g : Given) (fits : Fits g) (a : Build m g old new r) where
  -- each entry of a clipped cell is a vertex (`room` of build_laws/specs/Theorems)
  can : (b : Built) → build m g.bounds ≡ ok b → r ≡ 0 → Drawable b
  can b e z =
      let s = build_sound g fits a z in
      let q : s.outcome.value ≡ b = ok_one s.outcome.is e in
      let f = s.fits in
      subst Drawable q (record {
        named = λ k l. placed_named _ (length m.triangles / 3) _ (get_or s.outcome.value.cells k []) (omega (arith, f.added)) (f.placed k);
        room = omega (arith, f.vertices, sized.few_triangles, sized.few_on_hull);
      })

  pub laid_of_mesh : length new.indexes ≡ index_room → r ≡ 0 → CanDraw (site_count m.sites) vertex_room new.offsets new.indexes
  laid_of_mesh short z =
      let b = (zero_succeeds (box_answers g.sound) (build_late m g.bounds) a z).outcome in
      laid_out a b.value (whole m sized old long g a b.value b.is) (can b.value b.is z) b.is z (omega (arith, sized.few_sites)) short

  pub lines_of_mesh : OfMesh export_text m g (shown (lines (site_count m.sites) new.vertices new.offsets new.indexes) r)
  lines_of_mesh = text_of_mesh m sized old long g a export_text _ (λ b e z. lines_text a b (whole m sized old long g a b e) (can b e z) e z)
