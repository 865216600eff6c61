-- A build's answer and its lent slices give the text that is promised: a refusal's line by its number, or the listing of what was built.
use Rattle.std.specs.Prelude.{◌≡◌, refl, List, [], ◌∷◌, ◌++◌, ℕ, ◌/◌, ◌≤◌, length}
use Rattle.std.proofs.Common.{ap, arith}
use Rattle.plane.specs.declared.given.Given.{Given}
use Rattle.mesh.specs.Accepted.{Mesh, site_count}
use Rattle.admission.specs.Slices.{Slices}
use Rattle.arguments.specs.asking.laws.Asks.{box_answers}
use Rattle.cell_memory.specs.layout.Regions.{joined}
use Rattle.definition.specs.declared.Fault.{Fault}
use Rattle.definition.specs.Fault.{Outcome, ok}
use Rattle.definition.specs.Build.{Built}
use Rattle.definition.specs.Cell.{StepKind, extension, firstCrossing, secondCrossing}
use Rattle.definition.specs.Reused.{reused_of}
use Rattle.build_laws.specs.LateRefusals.{build_late}
use Rattle.building.specs.answers.Promise.{BuildAnswer, Build}
use Rattle.building.specs.answers.Success.{zero_succeeds}
use Rattle.form.specs.Limits.{most_sites}
use Rattle.form.specs.mesh.Read.{MeshSized}
use Rattle.printing.specs.Printed.{OfMesh, shown}
use Rattle.printing.specs.Rooms.{index_room}
use Rattle.printing.specs.laws.WholeBuild.{Whole}
use Rattle.printing.specs.laws.BuildText.{ProgramSlices, whole, text_of_mesh}
use Rattle.printing.specs.laws.BuiltSlices.{cells_of, offsets_after, indexes_after, counts_after, offsets_are, indexes_are, counts_are, cells_are}
use Rattle.cells.specs.listing.Listing.{counts_and_cells, listing, cell_lines}
use Rattle.cells.specs.Printed.{lines_of, listing_of, listing_text}
use Rattle.cells.specs.answer_text.Shown.{Laid, box_lines}
use Rattle.cells.specs.laws.CellsInIndexes.{lines_are, laid}

-- the counts: the vertices, the four owners, the lost corners, the reused points of each kind
counted : (n T : ℕ) (off ix os tail : List ℕ) (v l x y z : ℕ) → length os ≡ 4
    → box_lines n T off ix ((v ∷ os ++ l ∷ x ∷ y ∷ z ∷ []) ++ tail) ≡ listing n T v off ix os l x y z
counted n T off ix [] tail v l x y z h = absurd (omega arith)
counted n T off ix (a ∷ []) tail v l x y z h = absurd (omega arith)
counted n T off ix (a ∷ b ∷ []) tail v l x y z h = absurd (omega arith)
counted n T off ix (a ∷ b ∷ c ∷ []) tail v l x y z h = absurd (omega arith)
counted n T off ix (a ∷ b ∷ c ∷ d ∷ []) tail v l x y z h = refl
counted n T off ix (a ∷ b ∷ c ∷ d ∷ e ∷ os) tail v l x y z h = absurd (omega arith)

-- ---- the slices after the number 0
module _ {Rules : ℕ → Type 0} {table : List ℕ} {o : Outcome Fault Built} {old new : Slices} {r n : ℕ} (a : BuildAnswer Rules table o old new r)
    (b : Built) (w : Whole n b) (e : o ≡ ok b) (z : r ≡ 0) where
  abbrev olds : StepKind → ℕ
  olds k = reused_of k b.steps

  pub laid_out : (space : ℕ) → n ≤ most_sites → length new.indexes ≡ index_room → 65536 ≤ space → Laid n new.offsets new.indexes space
  laid_out space few short room =
      let q : length (joined (cells_of b) ++ indexes_after old b) ≤ index_room = omega (arith, ap length (indexes_are a b e z)) in
      rw (offsets_are a b e z, indexes_are a b e z, ← cells_are b w.cells)
      (laid (cells_of b) (offsets_after old b) (indexes_after old b) space (omega (arith, cells_are b w.cells)) q room)

  lines : cell_lines new.offsets new.indexes 0 n ≡ lines_of 0 (cells_of b)
  lines = rw (offsets_are a b e z, indexes_are a b e z, ← cells_are b w.cells) (lines_are (cells_of b) (offsets_after old b) (indexes_after old b))

  pub box_lines_lem : (T : ℕ) → box_lines n T new.offsets new.indexes new.counts ≡ listing_of n T b
  unfolding counts_and_cells listing
  box_lines_lem T =
      rw (
        counts_are a b e z,
        counted n T new.offsets new.indexes b.owners (counts_after old b) (length b.verts) b.lost (olds extension) (olds firstCrossing) (olds secondCrossing) w.owners,
        lines,
      )

-- ---- a build on lists within the form's limits, with slices of a program's lengths
module _ (m : Mesh) (sized : MeshSized (length m.sites) (length m.triangles) (length m.hull)) (old new : Slices) (long : ProgramSlices old) (r : ℕ)
    (g : Given) (a : Build m g old new r) where
  pub laid_of_mesh : (space : ℕ) → 65536 ≤ space → length new.indexes ≡ index_room → r ≡ 0 → Laid (site_count m.sites) new.offsets new.indexes space
  laid_of_mesh space room short z =
      let b = (zero_succeeds (box_answers g.sound) (build_late m g.bounds) a z).outcome in
      laid_out a b.value (whole m sized old long g a b.value b.is) b.is z space (omega (arith, sized.few_sites)) short room

  pub listing_of_mesh : OfMesh listing_text m g (shown (box_lines (site_count m.sites) (length m.triangles / 3) new.offsets new.indexes new.counts) r)
  listing_of_mesh = text_of_mesh m sized old long g a listing_text _ (λ b e z. box_lines_lem a b (whole m sized old long g a b e) e z (length m.triangles / 3))
