-- Theorem: where the total is not told, |box - sum of the areas| 2 ^ bits is at most the box, on whole numbers: each is twice an area, in units of 2 ^ -2148.
use Rattle.std.specs.Prelude.{◌≡◌, true, List, ℕ, ◌+◌, ◌-◌, ◌*◌, ◌^◌, ◌≤◌, Float, length}
use Rattle.std.proofs.Common.{leb-true}
use Rattle.plane.specs.boxes.Box.{corners_of}
use Rattle.plane.specs.declared.boxes.BoundingBox.{BoundingBox}
use Rattle.ring_area.specs.Steps.{gains_of, losses_of}
use Rattle.auditing.specs.total.Total.{rings_total, cell_gains, cell_losses, box_and_losses, box_and_gains, apart, total_whole}

-- the box less the sum: what the box adds and the rings take off, less what the box takes off and the rings add
pub whole : (box bits : ℕ) (b : BoundingBox) (v : List Float) (off ix : List ℕ) → total_whole box bits b v off ix ≡ true
    → apart (gains_of (corners_of b) + rings_total (cell_losses v off ix) (length off - 1)) (losses_of (corners_of b) + rings_total (cell_gains v off ix) (length off - 1)) * 2 ^ bits ≤ box
unfolding total_whole box_and_losses box_and_gains
whole box bits b v off ix e =
    leb-true (apart (gains_of (corners_of b) + rings_total (cell_losses v off ix) (length off - 1)) (losses_of (corners_of b) + rings_total (cell_gains v off ix) (length off - 1)) * 2 ^ bits) box e
