-- What a program's slices hold after a build with the number 0: what was built, each list from its beginning.
use Rattle.std.specs.Prelude.{◌≡◌, List, ◌++◌, map, ℕ, ◌-◌, Float, length, replicate}
use Rattle.std.proofs.Common.{◌∙◌}
use Rattle.std.proofs.lemmas.List.{length-map}
use Rattle.base.specs.common.Binary64.{zero}
use Rattle.base.specs.numbers.Numbers.{EMPTY}
use Rattle.plane.specs.points.Flat.{flat}
use Rattle.mesh_check.specs.whole.AtExit.{at_exit}
use Rattle.admission.specs.Slices.{Slices}
use Rattle.definition.specs.declared.Fault.{Fault}
use Rattle.definition.specs.Fault.{Outcome, ok}
use Rattle.definition.specs.Build.{Built}
use Rattle.definition.specs.Cell.{unmarked}
use Rattle.cell_memory.specs.layout.Regions.{joined, offsets_from}
use Rattle.cell_memory.specs.outputs.Outputs.{of_built, counts_made}
use Rattle.building.specs.answers.Promise.{BuildAnswer}

abbrev pub cells_of : Built → List (List ℕ)
cells_of b = map unmarked b.cells

-- what comes after them
module _ (old : Slices) (b : Built) where
  abbrev pub offsets_after : List ℕ
  offsets_after = replicate (length old.offsets - length (offsets_from 0 (cells_of b))) EMPTY

  abbrev pub indexes_after : List ℕ
  indexes_after = replicate (length old.indexes - length (joined (cells_of b))) EMPTY

  abbrev pub vertices_after : List Float
  vertices_after = replicate (length old.vertices - length (flat b.verts)) zero

  abbrev pub counts_after : List ℕ
  counts_after = replicate (length old.counts - length (counts_made b)) EMPTY

module _ {Rules : ℕ → Type 0} {table : List ℕ} {o : Outcome Fault Built} {old new : Slices} {r : ℕ} (a : BuildAnswer Rules table o old new r) (b : Built) (e : o ≡ ok b) (z : r ≡ 0) where
  pub offsets_are : new.offsets ≡ offsets_from 0 (cells_of b) ++ offsets_after old b
  unfolding at_exit of_built
  offsets_are = rw (z, e) at a.offsets

  pub indexes_are : new.indexes ≡ joined (cells_of b) ++ indexes_after old b
  unfolding at_exit of_built
  indexes_are = rw (z, e) at a.indexes

  pub vertices_are : new.vertices ≡ flat b.verts ++ vertices_after old b
  unfolding at_exit of_built
  vertices_are = rw (z, e) at a.vertices

  pub counts_are : new.counts ≡ counts_made b ++ counts_after old b
  unfolding at_exit of_built
  counts_are = rw (z, e) at a.counts

pub cells_are : {n : ℕ} (b : Built) → length b.cells ≡ n → length (cells_of b) ≡ n
cells_are b w = length-map b.cells unmarked ∙ w
