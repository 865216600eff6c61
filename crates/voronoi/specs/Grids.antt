-- The promises of the calls on the grid. What is asked: Plane of crate grid, Judged of grid::scan, Promise of grid::check; what the answers tell: Yes of
-- grid::check; of the hull: ShortForm of grid::border, Promise and Yes of grid::nearest; that the floats are equal numbers: Equal of grid::floats.
use Rattle.std.specs.Prelude.{List, ℕ, Float, ℤ}
use Rattle.grid.specs.check.Promise.{GridMesh, GridChecks}
use Rattle.grid.specs.nearest.Promise.{NearestChecks}
use Rattle.grid.specs.floats.Sites.{GridSites}

-- 1, 2, 22, 7 to 10
abbrev pub GridCheck : GridMesh → List ℕ → List ℕ → ℕ → ℕ → ℕ → Type 0
GridCheck = GridChecks

-- 1, 2, 22, 7 to 10; with the hull, and the lowest unused site
abbrev pub GridNearest : GridMesh → List ℕ → List ℕ → ℕ → ℕ → ℕ → ℕ → Type 0
GridNearest = NearestChecks

-- 1, 2, 22
abbrev pub SitesOfGrid : List ℤ → List Float → List Float → ℕ → Type 0
SitesOfGrid = GridSites
