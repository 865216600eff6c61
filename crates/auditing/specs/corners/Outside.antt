-- The second fault: a corner of a piece is outside the box. Definitions only.
use Rattle.std.specs.Prelude.{Bool, not, List, ℕ, Float, length, get_or}
use Rattle.ring_area.specs.lowest.Lowest.{lowest, any_below}
use Rattle.plane.specs.points.Flat.{point_at}
use Rattle.plane.specs.sides.Sides.{inside_of}
use Rattle.plane.specs.declared.boxes.BoundingBox.{BoundingBox}
use Rattle.walks.specs.shared.Cells.{cell_of}

-- corner k of a ring
unfoldable pub outside_at : BoundingBox → List Float → List ℕ → ℕ → Bool
outside_at b v cell k = not (inside_of b (point_at v (get_or cell k 0)))

-- some corner of it
unfoldable pub cell_outside : BoundingBox → List Float → List ℕ → Bool
cell_outside b v cell = any_below (outside_at b v cell) (length cell)

-- of the ring of site s
abbrev pub site_outside : BoundingBox → List Float → List ℕ → List ℕ → ℕ → Bool
site_outside b v off ix s = cell_outside b v (cell_of off ix s)

-- the entry of the first corner of it that is
abbrev pub entry_outside : BoundingBox → List Float → List ℕ → List ℕ → ℕ → ℕ
entry_outside b v off ix s = let cell = cell_of off ix s in get_or cell (lowest (outside_at b v cell) (length cell)) 0
