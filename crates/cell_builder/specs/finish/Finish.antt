-- A build's answer by the definition's outcome, and what the slices hold at its end.
use Rattle.std.specs.Prelude.{◌≡◌, true, false, List, [], ◌≢◌, ℕ, ◌+◌, ◌*◌, ◌≤◌, Float, length, replicate}
use Rattle.base.specs.common.Binary64.{zero}
use Rattle.base.specs.numbers.Numbers.{EMPTY}
use Rattle.cell_memory.specs.layout.Cleared.{cleared_from, padded}
use Rattle.cell_memory.specs.layout.Regions.{joined}
use Rattle.definition.specs.declared.Fault.{Fault}
use Rattle.definition.specs.Fault.{Outcome, ok, refused}
use Rattle.definition.specs.Build.{Built}
use Rattle.definition.specs.Short.{fault}
use Rattle.definition.specs.Measures.{lost_left}
use Rattle.definition.specs.Reused.{reused, reused_in}
use Rattle.mesh.specs.Mesh.{total_to}
use Rattle.cell_memory.specs.outputs.Outputs.{Gathered}
use Rattle.cell_builder.specs.declared.finish.Progress.{Progress}
use Rattle.cell_builder.specs.declared.finish.CellsAnswer.{CellsAnswer}
use Rattle.cell_builder.specs.declared.finish.Finished.{Finished}
use Rattle.cell_builder.specs.placed.Placed.{Placeable, CellsReady}

-- refused: no vertex, no owner, none lost, no point taken again
abbrev pub outcome_answer : Outcome Fault Built → CellsAnswer
outcome_answer (ok r) = record { fault = fault 0 0 0 0; count = length r.verts; owners = r.owners; lost = r.lost; reused = reused_in r.steps }
outcome_answer (refused f) = record { fault = f; count = 0; owners = replicate 4 EMPTY; lost = 0; reused = reused 0 0 0 }

-- a refusal's answer, and all three slices cleared
pub record RefusedCells (e : Fault) (v : List Float) (ix off : List ℕ) (r : CellsAnswer) (v₁ : List Float) (ix₁ off₁ : List ℕ) : Type 0 where
  pub answer : r ≡ outcome_answer (refused e)
  pub vertices : v₁ ≡ padded (length v) zero []
  pub indexes : ix₁ ≡ padded (length ix) EMPTY []
  pub offsets : off₁ ≡ padded (length off) EMPTY []

-- cells of n sites that can be put in their places, corners after the circumcenters, and a count of vertices that the slice of so many numbers holds
pub record Finishable (he table m : List ℕ) (n centers count numbers : ℕ) (ix off : List ℕ) : Type 0 where
  pub placeable : Placeable he table m ix off n
  pub corners : centers + 4 ≤ EMPTY
  pub room : 2 * count ≤ numbers

-- the cells put in their places, the vertices after the count cleared; lost are the corners not wrapped that are in no cell. Told whole, the walks have all half-edges
pub record FinishedCells (he table m : List ℕ) (n centers : ℕ) (p : Progress) (found : List ℕ) (v : List Float) (ix off : List ℕ) (r : Finished) (v₁ : List Float)
    (ix₁ off₁ : List ℕ) : Type 0 where
  pub whole : r.whole ≡ true → length he ≤ total_to he table n
  pub answer : (cells : List (List ℕ)) → length cells ≡ n → CellsReady he table m ix off found cells
      → r.answer ≡ record { fault = p.fault; count = p.count; owners = found; lost = lost_left centers p.owners (joined cells); reused = p.reused }
  pub vertices : v₁ ≡ cleared_from (2 * p.count) zero v
  pub gathered : (cells : List (List ℕ)) → length cells ≡ n → CellsReady he table m ix off found cells → Gathered cells ix off ix₁ off₁

-- the one or the other, by the fault's number; refused, nothing is told of the fans
pub record SettledCells (he table m : List ℕ) (n centers : ℕ) (p : Progress) (found : List ℕ) (v : List Float) (ix off : List ℕ) (r : Finished) (v₁ : List Float)
    (ix₁ off₁ : List ℕ) : Type 0 where
  pub on_refusal : p.fault.number ≢ 0 → RefusedCells p.fault v ix off r.answer v₁ ix₁ off₁ × (r.whole ≡ false)
  pub on_success : p.fault.number ≡ 0 → FinishedCells he table m n centers p found v ix off r v₁ ix₁ off₁
