-- The box's area as a whole number, exact: what the ring of its corners adds, less what it takes off. Definitions only.
use Rattle.std.specs.Prelude.{List, ℕ, ◌-◌}
use Rattle.plane.specs.boxes.Box.{corners_of}
use Rattle.plane.specs.declared.boxes.BoundingBox.{BoundingBox}
use Rattle.ring_area.specs.long.Steps.{PutIn}
use Rattle.ring_area.specs.Steps.{gains_of, losses_of}

-- twice the area, in units of 2 ^ -2148
unfoldable pub box_twice : BoundingBox → ℕ
box_twice b = gains_of (corners_of b) - losses_of (corners_of b)

-- the box's sides in two long numbers that were p and m
pub record BoxIn (b : BoundingBox) (p p₁ m m₁ : List ℕ) : Type 0 where
  pub added : PutIn p p₁ (gains_of (corners_of b)) 64
  pub taken : PutIn m m₁ (losses_of (corners_of b)) 64
