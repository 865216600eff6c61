-- How demand 3 speaks of lists on a mesh: a walk that goes round its site, neighbours, a path that approaches its point.
use Rattle.std.specs.Prelude.{◌≡◌, List, ◌⊎◌, ℕ, ◌+◌, ◌<◌, T, Float, length, get_or}
use Rattle.std.specs.Float.Ieee.{lt}
use Rattle.base.specs.common.Count.{occ}
use Rattle.plane.specs.declared.points.Point.{Point}
use Rattle.mesh.specs.Mesh.{start_of, end_of}
use Rattle.mesh.specs.Accepted.{Mesh, table_of}
use Rattle.walks.specs.neighbours.Neighbours.{neighbours_of}
use Rattle.walks.specs.paths.PathRule.{NoneNearer, FirstNearest}
use Rattle.walks.specs.paths.Path.{dist_of, last_of}

-- the list l of site s: each half-edge that ends there once, and no other
pub record WholeRound (tri he : List ℕ) (s : ℕ) (l : List ℕ) : Type 0 where
  pub each : (e : ℕ) → e < length he → end_of tri e ≡ s → occ e l ≡ 1
  pub only : (e : ℕ) → 0 < occ e l → (e < length he) × (end_of tri e ≡ s)

-- the neighbours of a site, as `voronoi_neighbours` lists them
abbrev pub next_to : Mesh → ℕ → List ℕ
next_to m s = neighbours_of m.triangles m.halfedges (table_of m) s

-- a half-edge joins the two sites, either way
pub record Joined (tri he : List ℕ) (s v : ℕ) : Type 0 where
  pub edge : ℕ
  pub inside : edge < length he
  pub ends : ((start_of tri edge ≡ v) × (end_of tri edge ≡ s)) ⊎ ((start_of tri edge ≡ s) × (end_of tri edge ≡ v))

-- the list l from s, d being the computed squared distance of a site to the path's point and nb a site's neighbours
pub record Approaches (d : ℕ → Float) (nb : ℕ → List ℕ) (s : ℕ) (l : List ℕ) : Type 0 where
  pub starts : (0 < length l) × (get_or l 0 0 ≡ s)
  -- each hop goes to the first of the nearest neighbours, and strictly nearer
  pub hops : (i : ℕ) → i + 1 < length l → FirstNearest d (nb (get_or l i 0)) (get_or l (i + 1) 0)
  pub nearer : (i : ℕ) → i + 1 < length l → T (lt (d (get_or l (i + 1) 0)) (d (get_or l i 0)))
  -- none is nearer than its end
  pub stops : NoneNearer d (nb (last_of l)) (last_of l)

-- o is where a path from s to the point p ends
pub record PathStops (m : Mesh) (p : Point) (s o : ℕ) : Type 0 where
  pub path : List ℕ
  pub approaches : Approaches (dist_of m.sites p) (next_to m) s path
  pub last : o ≡ last_of path
