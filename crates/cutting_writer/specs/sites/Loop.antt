-- What the loop over all sites asks and leaves.
use Rattle.std.specs.Prelude.{◌≡◌, List, ℕ, ◌+◌, ◌*◌, ◌≤◌, ◌<◌, Float, length}
use Rattle.base.specs.numbers.Numbers.{EMPTY}
use Rattle.plane.specs.declared.boxes.BoundingBox.{BoundingBox}
use Rattle.cutting.specs.declared.pen.Pen.{Pen}
use Rattle.cutting.specs.pen.Pen.{page}
use Rattle.cutting.specs.pen.Room.{Roomy}
use Rattle.cutting_writer.specs.sites.Pieces.{Sheet, sheet_from, RoomyFrom}

abbrev pub sheet : Pen → List Float → List ℕ → List ℕ → Sheet
sheet pen v ix off = record { page = page pen v ix; offsets = off }

pub record Sheetable (b : BoundingBox) (sites : List Float) (tri he table : List ℕ) (centers : ℕ) (pen : Pen) (v : List Float) (ix off : List ℕ) : Type 0 where
  pub thirds : length he ≤ 3 * centers
  pub small : length he < EMPTY
  pub corners : centers + 4 ≤ pen.count
  pub few : length table < EMPTY
  pub one_more : length table < length off
  pub room : RoomyFrom b sites tri he centers (page pen v ix) table

-- the sheet of the definition, in slices of the same lengths, and with room
pub record Sheeted (b : BoundingBox) (sites : List Float) (tri he table : List ℕ) (centers : ℕ) (pen : Pen) (v : List Float) (ix off : List ℕ) (r : Pen) (v₁ : List Float) (ix₁ off₁ : List ℕ)
    : Type 0
  where
    pub made : sheet r v₁ ix₁ off₁ ≡ sheet_from b sites tri he centers 0 table (sheet pen v ix off)
    pub room : Roomy (page r v₁ ix₁)
