-- After s turns the first s cells stand together, what lies ahead is untouched, and the starts passed are offsets.
use Rattle.std.specs.Prelude.{◌≡◌, ◌≢◌, ◌*◌, ◌≤◌, ℕ, List, length}
use Rattle.base.specs.common.Count.{occ}
use Rattle.mesh.specs.Mesh.{total_to}
use Rattle.cell_memory.specs.layout.laws.Compacted.{Compacting, Moved}
use Rattle.cell_builder.specs.placed.Placed.{CellsReady}
use Rattle.cell_builder.proofs.placed.place_cells.Given as goal

abbrev pub invariant-loop-s : goal.invariant-loop-s
invariant-loop-s l =
    Compacting l.fn.indexes l.fn.offsets l.indexes l.offsets l.sites l.w l.from l.s × (l.steps ≤ total_to l.halfedges l.table l.s) × (l.steps ≤ 393216 * l.s)
    × ((owners : List ℕ) → ((k : ℕ) → k ≢ l.crowd → occ k owners ≤ 2) → (cells : List (List ℕ)) → length cells ≡ l.sites
    → CellsReady l.halfedges l.table l.marks l.fn.indexes l.fn.offsets owners cells → Moved l.fn.indexes l.fn.offsets l.indexes l.offsets cells l.w l.from l.s)
