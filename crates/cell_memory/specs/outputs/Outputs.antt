-- The lent slices of a build: the room that rule 2 asks of them, and what they hold at exit, by the definition's outcome.
use Rattle.std.specs.Prelude.{◌≡◌, List, [], ◌∷◌, ◌++◌, map, ℕ, ◌+◌, ◌*◌, ◌/◌, ◌≤◌, ◌<◌, Float, length, replicate}
use Rattle.base.specs.common.Binary64.{zero}
use Rattle.base.specs.numbers.Numbers.{EMPTY}
use Rattle.plane.specs.points.Flat.{flat}
use Rattle.definition.specs.declared.Fault.{Fault}
use Rattle.definition.specs.Fault.{Outcome, ok, refused}
use Rattle.definition.specs.Cell.{extension, firstCrossing, secondCrossing, unmarked}
use Rattle.definition.specs.Build.{Built}
use Rattle.definition.specs.Reused.{reused_of}
use Rattle.cell_memory.specs.layout.Cleared.{padded}
use Rattle.cell_memory.specs.layout.Regions.{joined, offsets_from, Regions}
use Rattle.cell_memory.specs.layout.Rooms.{Started}

-- T triangles, h hull sites, n sites; slices of so many numbers, indexes and offsets
pub record Rooms (T h n numbers indexes offsets : ℕ) : Type 0 where
  pub vertices : 7 * T + 5 * h + 4 ≤ numbers / 2
  pub entries : 12 * T + 8 * h + 4 ≤ indexes
  pub one_more : n < offsets

-- the regions of n sites, each with an empty cell
pub record LaidOut (tri hull owners : List ℕ) (n : ℕ) (ix off : List ℕ) : Type 0 where
  pub started : Started tri hull owners n off
  pub regions : Regions ix off (replicate n [])

-- the cells moved together and their offsets, in slices that were ix and off
pub record Gathered (cells : List (List ℕ)) (ix off ix₁ off₁ : List ℕ) : Type 0 where
  pub indexes : ix₁ ≡ padded (length ix) EMPTY (joined cells)
  pub offsets : off₁ ≡ padded (length off) EMPTY (offsets_from 0 cells)

-- what f takes of a build; nothing where it is refused
unfoldable pub of_built : {A : Type 0} → (Built → List A) → Outcome Fault Built → List A
of_built f (ok b) = f b
of_built f (refused e) = []

-- the number of vertices, the corners' owners as found, the lost corners, the points taken again: as extensions, as first and as second crossings
abbrev pub counts_made : Built → List ℕ
counts_made b = length b.verts ∷ b.owners ++ b.lost ∷ reused_of extension b.steps ∷ reused_of firstCrossing b.steps ∷ reused_of secondCrossing b.steps ∷ []

-- the fault that the code answers: none is the number 0
abbrev pub fault_of : Outcome Fault Built → Fault
fault_of (ok b) = record { number = 0; place = 0; from = 0; to = 0 }
fault_of (refused f) = f

-- slices that were v, ix and off, after a build with this outcome
pub record BuiltInto (o : Outcome Fault Built) (v : List Float) (ix off : List ℕ) (v₁ : List Float) (ix₁ off₁ : List ℕ) : Type 0 where
  pub vertices : v₁ ≡ padded (length v) zero (of_built (λ b. flat b.verts) o)
  pub indexes : ix₁ ≡ padded (length ix) EMPTY (of_built (λ b. joined (map unmarked b.cells)) o)
  pub offsets : off₁ ≡ padded (length off) EMPTY (of_built (λ b. offsets_from 0 (map unmarked b.cells)) o)
