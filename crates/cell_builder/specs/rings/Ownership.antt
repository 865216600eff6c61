-- What the paths to the corners need.
use Rattle.std.specs.Prelude.{List, ℕ, ◌/◌, ◌<◌, Float, length, get_or}
use Rattle.std.specs.Float.{nan}
use Rattle.plane.specs.points.Plane.{at}
use Rattle.plane.specs.boxes.Box.{corners_of}
use Rattle.plane.specs.declared.boxes.BoundingBox.{BoundingBox}
use Rattle.walks.specs.paths.PathNeeds.{Walkable, Towards}

-- a mesh that paths can follow, a site to begin at, and corners whose distance from each site is a number
pub record Owned (sites : List Float) (tri he table : List ℕ) (b : BoundingBox) (first : ℕ) : Type 0 where
  pub ready : Walkable tri he table (length sites / 2)
  pub begun : first < length sites / 2
  pub towards : (k : ℕ) → k < 4 → Towards sites (get_or (corners_of b) k (at nan nan)) (length sites / 2)
