-- What the steps to the total owe each other. Definitions only.
use Rattle.std.specs.Prelude.{List, ℕ, ◌*◌, Float}
use Rattle.plane.specs.declared.boxes.BoundingBox.{BoundingBox}
use Rattle.ring_area.specs.long.Steps.{PutIn}
use Rattle.auditing.specs.total.Total.{rings_total, cell_gains, cell_losses, box_and_losses, box_and_gains}

-- the rings of n sites in two long numbers that were p and m, by as many puts as at most 2 ^ 24 entries take
pub record RingsIn (v : List Float) (off ix : List ℕ) (n : ℕ) (p p₁ m m₁ : List ℕ) : Type 0 where
  pub taken : PutIn p p₁ (rings_total (cell_losses v off ix) n) (16 * 16777216)
  pub added : PutIn m m₁ (rings_total (cell_gains v off ix) n) (16 * 16777216)

-- the box's too
pub record TotalIn (b : BoundingBox) (v : List Float) (off ix : List ℕ) (p p₁ m m₁ : List ℕ) : Type 0 where
  pub plus : PutIn p p₁ (box_and_losses b v off ix) (16 * 16777220)
  pub minus : PutIn m m₁ (box_and_gains b v off ix) (16 * 16777220)
