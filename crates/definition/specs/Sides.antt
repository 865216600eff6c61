-- What it is for a vertex to lie on a side of the box.
use Rattle.std.specs.Prelude.{ℕ, ◌+◌, ◌<◌, List}
use Rattle.plane.specs.declared.points.Point.{Point}
use Rattle.plane.specs.sides.Sides.{which_of}
use Rattle.plane.specs.boxes.Finite.{BoundedBox}
use Rattle.plane.specs.declared.boxes.BoundingBox.{BoundingBox}
use Rattle.definition.specs.Cell.{vertex_at}

-- vertex v of vs is within tolerance of a side's line
abbrev pub Sided : BoundingBox → List Point → ℕ → Type 0
Sided b vs v = which_of b (vertex_at vs v) < 4

-- a box that rule 3 admits, and after the nc circumcenters four vertices that lie on its sides, as its corners do
pub record SidedCorners (b : BoundingBox) (nc : ℕ) (vs : List Point) : Type 0 where
  pub box : BoundedBox 101 b
  pub corner : (c : ℕ) → c < 4 → Sided b vs (nc + c)
