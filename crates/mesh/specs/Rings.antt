-- Rings: the triangles round a site, and how often they hold a triangle. Definitions only.
use Rattle.std.specs.Prelude.{◌≡◌, List, [], ◌∷◌, map, ℕ, ◌+◌, ◌*◌, ◌/◌, ◌<◌, get_or}
use Rattle.base.specs.common.Count.{occ, sum_to}
use Rattle.mesh.specs.Mesh.{whole_of}
use Rattle.mesh.specs.Accepted.{Mesh, table_of}

-- the triangles along a list of half-edges
abbrev pub walk_triangles : List ℕ → List ℕ
walk_triangles = map (λ (e : ℕ). e / 3)

-- the ring of site s: along the whole walk from its leftmost half-edge
abbrev pub site_ring : Mesh → ℕ → List ℕ
site_ring m s = walk_triangles (whole_of m.halfedges (get_or (table_of m) s 0))

-- the sites of triangle t
abbrev pub sites_of : List ℕ → ℕ → List ℕ
sites_of tri t = get_or tri (3 * t) 0 ∷ get_or tri (3 * t + 1) 0 ∷ get_or tri (3 * t + 2) 0 ∷ []

-- the rings of n sites hold triangle t three times in all: once for each of its sites, and for no other
pub record Thrice (tri : List ℕ) (ring : ℕ → List ℕ) (n t : ℕ) : Type 0 where
  pub each : (s : ℕ) → s < n → occ t (ring s) ≡ occ s (sites_of tri t)
  pub once : (s : ℕ) → 0 < occ s (sites_of tri t) → occ s (sites_of tri t) ≡ 1
  pub three : sum_to (λ s. occ t (ring s)) n ≡ 3
