-- Values that binary64 holds, within a bound: coordinates, points, boxes, lists. Definitions only.
use Rattle.std.specs.Prelude.{List, ℕ, T, Float, get_or}
use Rattle.std.specs.Float.{nan, binary64}
use Rattle.std.specs.Float.Ieee.{fits}
use Rattle.root.specs.Bounded.{Bounded}
use Rattle.plane.specs.declared.points.Point.{Point}
use Rattle.plane.specs.declared.boxes.BoundingBox.{BoundingBox}

-- a value of binary64 within 2 ^ k
pub record HeldWithin (k : ℕ) (x : Float) : Type 0 where
  pub held : T (fits binary64 x)
  pub bounded : Bounded k x

-- both coordinates are values of binary64 within 2 ^ 400
pub record HeldPoint (p : Point) : Type 0 where
  pub x : HeldWithin 400 p.x
  pub y : HeldWithin 400 p.y

-- the edges are values of binary64 within 2 ^ 101
pub record HeldBox (b : BoundingBox) : Type 0 where
  pub left : HeldWithin 101 b.left
  pub right : HeldWithin 101 b.right
  pub top : HeldWithin 101 b.top
  pub bottom : HeldWithin 101 b.bottom

-- each number of a list, as each of a lent slice is
abbrev pub AllHeld : List Float → Type 0
AllHeld l = (k : ℕ) → T (fits binary64 (get_or l k nan))

-- the edges, whatever their bound
pub record HeldEdges (b : BoundingBox) : Type 0 where
  pub left : T (fits binary64 b.left)
  pub right : T (fits binary64 b.right)
  pub top : T (fits binary64 b.top)
  pub bottom : T (fits binary64 b.bottom)
