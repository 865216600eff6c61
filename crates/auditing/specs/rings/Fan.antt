-- The first fault: a ring does not run once round, the right way. With its corners v0, v1, .., one of the triangles v0 vi vi+1 or v0 v1 vi+1 has an exact area below the
-- box's over 2 ^ bits, taken off. `box` is twice the box's area; a triangle's sums differ by twice its own. Definitions only.
use Rattle.std.specs.Prelude.{Bool, ◌||◌, List, [], ◌∷◌, map, ℕ, ◌+◌, ◌-◌, ◌*◌, ◌^◌, ltb, Float, length, get_or}
use Rattle.ring_area.specs.lowest.Lowest.{any_below}
use Rattle.plane.specs.points.Flat.{point_at}
use Rattle.plane.specs.declared.points.Point.{Point}
use Rattle.ring_area.specs.Steps.{gains_of, losses_of}
use Rattle.walks.specs.shared.Cells.{cell_of}

-- the corners that three entries name
abbrev pub triangle_of : List Float → ℕ → ℕ → ℕ → List Point
triangle_of v a b c = map (point_at v) (a ∷ b ∷ c ∷ [])

-- the area is below -limit: what is taken off is over what is added by more than the limit
unfoldable pub turns_over : ℕ → ℕ → List Point → Bool
turns_over box bits ring = ltb box ((losses_of ring - gains_of ring) * 2 ^ bits)

-- at i = k + 1
unfoldable pub folds_at : ℕ → ℕ → List Float → List ℕ → ℕ → Bool
folds_at box bits v cell k =
    turns_over box bits (triangle_of v (get_or cell 0 0) (get_or cell (k + 1) 0) (get_or cell (k + 2) 0))
    || turns_over box bits (triangle_of v (get_or cell 0 0) (get_or cell 1 0) (get_or cell (k + 2) 0))

unfoldable pub ring_folds : ℕ → ℕ → List Float → List ℕ → Bool
ring_folds box bits v cell = any_below (folds_at box bits v cell) (length cell - 2)

-- the ring of site s
abbrev pub site_folds : ℕ → ℕ → List Float → List ℕ → List ℕ → ℕ → Bool
site_folds box bits v off ix s = ring_folds box bits v (cell_of off ix s)
