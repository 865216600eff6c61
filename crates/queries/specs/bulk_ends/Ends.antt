-- Where the paths to a list of points end: the first path from a site, each next from the end of the last. Definitions only.
use Rattle.std.specs.Prelude.{List, [], ◌∷◌, ◌++◌, ℕ, zero, suc, ◌/◌, Float, length}
use Rattle.plane.specs.points.Flat.{point_at}
use Rattle.plane.specs.declared.points.Point.{Point}
use Rattle.mesh.specs.Accepted.{Mesh, table_of}
use Rattle.walks.specs.paths.Path.{whole_path, last_of}

-- where the paths stand once k points have been reached: at first at s
unfoldable pub stands_at : (Point → ℕ → ℕ) → List Float → ℕ → ℕ → ℕ
stands_at end points s zero = s
stands_at end points s (suc k) = end (point_at points k) (stands_at end points s k)

-- the ends of the first k paths
unfoldable pub ends_up_to : (Point → ℕ → ℕ) → List Float → ℕ → ℕ → List ℕ
ends_up_to end points s zero = []
ends_up_to end points s (suc k) = ends_up_to end points s k ++ stands_at end points s (suc k) ∷ []

-- the last site of the path from s towards p
abbrev pub end_from : List Float → List ℕ → List ℕ → List ℕ → Point → ℕ → ℕ
end_from sites tri he table p s = last_of (whole_path sites tri he table p s)

-- of every point
abbrev pub all_ends : Mesh → List Float → ℕ → List ℕ
all_ends m points s = ends_up_to (end_from m.sites m.triangles m.halfedges (table_of m)) points s (length points / 2)
