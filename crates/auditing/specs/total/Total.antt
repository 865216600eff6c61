-- The fourth fault: the exact sum of the exact areas differs from the box's by more than 2 ^ -bits of it; and the share that is missing. There is a site less than
-- offsets. Definitions only.
use Rattle.std.specs.Prelude.{Bool, List, map, ℕ, zero, suc, ◌+◌, ◌-◌, ◌*◌, ◌^◌, leb, Float, length, Result, Ok, Err}
use Rattle.base.specs.common.Binary64.{◌⊟◌, ◌⊘◌}
use Rattle.plane.specs.points.Flat.{point_at}
use Rattle.plane.specs.boxes.Box.{corners_of}
use Rattle.plane.specs.declared.boxes.BoundingBox.{BoundingBox}
use Rattle.ring_area.specs.Area.{rounded_half, area}
use Rattle.ring_area.specs.Steps.{gains_of, losses_of}
use Rattle.walks.specs.shared.Cells.{cell_of}

-- f of the numbers below n, together
unfoldable pub rings_total : (ℕ → ℕ) → ℕ → ℕ
rings_total f zero = 0
rings_total f (suc n) = rings_total f n + f n

-- what the ring of site s adds, and what it takes off
abbrev pub cell_gains : List Float → List ℕ → List ℕ → ℕ → ℕ
cell_gains v off ix s = gains_of (map (point_at v) (cell_of off ix s))

abbrev pub cell_losses : List Float → List ℕ → List ℕ → ℕ → ℕ
cell_losses v off ix s = losses_of (map (point_at v) (cell_of off ix s))

-- the box less the sum is what the box adds and the rings take off, less what the box takes off and the rings add; each is twice an area
unfoldable pub box_and_losses : BoundingBox → List Float → List ℕ → List ℕ → ℕ
box_and_losses b v off ix = gains_of (corners_of b) + rings_total (cell_losses v off ix) (length off - 1)

unfoldable pub box_and_gains : BoundingBox → List Float → List ℕ → List ℕ → ℕ
box_and_gains b v off ix = losses_of (corners_of b) + rings_total (cell_gains v off ix) (length off - 1)

-- the missing share: the box less the sum, rounded once, over the box rounded once
unfoldable pub missing_of : BoundingBox → List Float → List ℕ → List ℕ → Float
missing_of b v off ix = rounded_half (box_and_losses b v off ix) (box_and_gains b v off ix) ⊘ area (corners_of b)

-- a share that is within the limit, or is not
abbrev pub share_of : Result Float Float → Float
share_of (Ok m) = m
share_of (Err m) = m

abbrev pub apart : ℕ → ℕ → ℕ
apart a b = a - b + (b - a)

-- `box` is twice the box's area
unfoldable pub total_whole : ℕ → ℕ → BoundingBox → List Float → List ℕ → List ℕ → Bool
total_whole box bits b v off ix = leb (apart (box_and_losses b v off ix) (box_and_gains b v off ix) * 2 ^ bits) box
