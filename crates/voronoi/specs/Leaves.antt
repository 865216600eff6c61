-- How demand 2 speaks of calls on a mesh: where one may answer 0, and what a build that answers 0 leaves in its slices.
use Rattle.std.specs.Prelude.{◌≡◌, true, List, [], map, ℕ, suc, ◌≤◌, ◌<◌, length, get_or, take, drop}
use Rattle.std.specs.Float.{nan}
use Rattle.base.specs.numbers.Numbers.{EMPTY}
use Rattle.base.specs.common.Binary64.{zero}
use Rattle.plane.specs.points.Flat.{flat}
use Rattle.mesh.specs.Accepted.{Mesh, Accepted, site_count}
use Rattle.cell_memory.specs.layout.Regions.{joined, offsets_from}
use Rattle.definition.specs.declared.Fault.{Fault}
use Rattle.definition.specs.Fault.{Outcome, ok}
use Rattle.definition.specs.Build.{finite, Built}
use Rattle.cell_memory.specs.layout.Cleared.{padded}
use Rattle.cell_memory.specs.outputs.Outputs.{counts_made}
use Rattle.definition.specs.Cell.{unmarked}
use Rattle.admission.specs.Slices.{Slices, room_of}
use Rattle.building.specs.answers.Success.{Value}
use Rattle.voronoi.specs.Builds.{Cell, CellPart}

-- a query may answer 0: the mesh is accepted, the work slice has an entry for each site, and its own arguments are sound
pub record QueryAllowed (m : Mesh) (work : List ℕ) (own : Type 0) : Type 0 where
  pub mesh : Accepted m
  pub room : site_count m.sites ≤ length work
  pub arguments : own

-- so may a build: the mesh is accepted, there is room, the box keeps its rule, and the definition's outcome o is no refusal
pub record BuildAllowed (m : Mesh) (box : Type 0) (o : Outcome Fault Built) (old : Slices) : Type 0 where
  pub mesh : Accepted m
  pub room : room_of m old ≡ true
  pub in_box_lem : box
  pub value : Value o

-- what a build with the outcome o leaves in its slices for n sites
pub record BuildLeaves (n : ℕ) (table : List ℕ) (o : Outcome Fault Built) (old new : Slices) : Type 0 where
  pub made : Built
  pub is : o ≡ ok made
  -- the definition's vertices, cells and counts, then +0 or EMPTY
  pub vertices : new.vertices ≡ padded (length old.vertices) zero (flat made.verts)
  pub indexes : new.indexes ≡ padded (length old.indexes) EMPTY (joined (map unmarked made.cells))
  pub offsets : new.offsets ≡ padded (length old.offsets) EMPTY (offsets_from 0 (map unmarked made.cells))
  pub counts : new.counts ≡ padded (length old.counts) EMPTY (counts_made made)
  pub work : new.work ≡ padded (length old.work) EMPTY table
  -- no NaN and no infinity among them
  pub numbers : (i : ℕ) → i < length new.vertices → finite (get_or new.vertices i nan) ≡ true
  -- a cell for each site; the cell queries, lent the offsets without their tail and the index list, hand back the definition's
  pub many : length made.cells ≡ n
  pub cell : (s : ℕ) {start long r : ℕ} → s < n → Cell (take (suc n) new.offsets) new.indexes s start long r
      → (r ≡ 0) × (take long (drop start new.indexes) ≡ unmarked (get_or made.cells s []))
  pub cell_part : (s : ℕ) {part : List ℕ} {r : ℕ} → s < n → CellPart (take (suc n) new.offsets) new.indexes s part r → (r ≡ 0) × (part ≡ unmarked (get_or made.cells s []))
