-- What a build promises: its number, and each lent slice at exit by one rule of that number.
use Rattle.std.specs.Prelude.{◌≡◌, Bool, true, List, ◌++◌, map, ℕ, length}
use Rattle.base.specs.common.Refusals.{Rule, Finds}
use Rattle.base.specs.common.Binary64.{zero}
use Rattle.base.specs.numbers.Numbers.{EMPTY}
use Rattle.plane.specs.points.Flat.{flat}
use Rattle.plane.specs.declared.given.Given.{Given}
use Rattle.mesh.specs.Rules.{call_rules}
use Rattle.mesh.specs.Accepted.{Mesh, table_of}
use Rattle.mesh_check.specs.whole.AtExit.{at_exit}
use Rattle.definition.specs.declared.Fault.{Fault}
use Rattle.definition.specs.Fault.{Outcome}
use Rattle.definition.specs.Cell.{unmarked}
use Rattle.definition.specs.Build.{Built, build}
use Rattle.cell_memory.specs.layout.Regions.{joined, offsets_from}
use Rattle.cell_memory.specs.layout.Cleared.{padded}
use Rattle.cell_memory.specs.outputs.Outputs.{of_built, fault_of, counts_made}
use Rattle.arguments.specs.asking.Asks.{box_rules}
use Rattle.admission.specs.Admits.{asked_rules}
use Rattle.admission.specs.Slices.{Slices, room_of}

-- the number: of the rules up to 10, `own` being those on the box, then the outcome's
pub record Builds (m : Mesh) (roomy : Bool) (own : List (Rule ℕ)) (o : Outcome Fault Built) (r : ℕ) : Type 0 where
  pub found : Finds (call_rules m (roomy ≡ true) own ++ asked_rules (fault_of o).number) 0 r

-- a build with the outcome o, and the leftmost table
pub record BuildAnswer (Number : ℕ → Type 0) (table : List ℕ) (o : Outcome Fault Built) (old new : Slices) (r : ℕ) : Type 0 where
  pub number : Number r
  pub work : new.work ≡ at_exit EMPTY (padded (length old.work) EMPTY table) old.work r
  pub vertices : new.vertices ≡ at_exit zero (padded (length old.vertices) zero (of_built (λ b. flat b.verts) o)) old.vertices r
  pub indexes : new.indexes ≡ at_exit EMPTY (padded (length old.indexes) EMPTY (of_built (λ b. joined (map unmarked b.cells)) o)) old.indexes r
  pub offsets : new.offsets ≡ at_exit EMPTY (padded (length old.offsets) EMPTY (of_built (λ b. offsets_from 0 (map unmarked b.cells)) o)) old.offsets r
  pub counts : new.counts ≡ at_exit EMPTY (padded (length old.counts) EMPTY (of_built counts_made o)) old.counts r

module _ (m : Mesh) where
  -- 1, 2, what is asked of the box, 6, 7 to 10, then the outcome's
  abbrev pub BuildAnswers : List (Rule ℕ) → Outcome Fault Built → Slices → Slices → ℕ → Type 0
  BuildAnswers own o old = BuildAnswer (Builds m (room_of m old) own o) (table_of m) o old

  -- clipped to the given box
  abbrev pub Build : Given → Slices → Slices → ℕ → Type 0
  Build g old = BuildAnswer (Builds m (room_of m old) (box_rules g.sound) (build m g.bounds)) (table_of m) (build m g.bounds) old
