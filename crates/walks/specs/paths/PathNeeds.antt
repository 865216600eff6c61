-- What paths need of a mesh, its leftmost table and a destination. An accepted mesh and an admitted destination give it.
use Rattle.std.specs.Prelude.{◌≡◌, List, not, ℕ, ◌*◌, ◌≤◌, ◌<◌, T, length, get_or, Float}
use Rattle.std.specs.Float.Ieee.{is_nan}
use Rattle.mesh.specs.Mesh.{end_of, Paired}
use Rattle.plane.specs.declared.points.Point.{Point}
use Rattle.walks.specs.paths.Path.{dist_of}

-- n sites, and at each of them the table holds a half-edge that ends there, or none
pub record Walkable (tri he table : List ℕ) (n : ℕ) : Type 0 where
  pub paired : Paired tri he
  pub even : length he ≡ length tri
  pub named : (e : ℕ) → e < length tri → get_or tri e 0 < n
  pub ends : (s : ℕ) → s < n → get_or table s 0 < length he → end_of tri (get_or table s 0) ≡ s
  pub long : n ≤ length table

-- the distance from each of the n sites to p is a number
pub record Towards (sites : List Float) (p : Point) (n : ℕ) : Type 0 where
  pub room : 2 * n ≤ length sites
  pub numbers : (s : ℕ) → s < n → T (not (is_nan (dist_of sites p s)))
