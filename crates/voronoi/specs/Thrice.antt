-- Theorem: on every accepted mesh the walks of all sites, each asked for with room for the whole of it, hold every triangle exactly three times in all: once in the walk of
-- each of its three sites, and in no other. What a ring is, and the law below it: Rings and ThriceTheorem of crate mesh; that clipping is given these rings: RingsGiven of
-- crate build_laws.
use Rattle.std.specs.Prelude.{◌≡◌, List, ℕ, ◌/◌, ◌<◌, length, take}
use Rattle.std.proofs.Common.{ap, ◌∙◌}
use Rattle.mesh.specs.Accepted.{Mesh, site_count}
use Rattle.mesh.specs.Rings.{walk_triangles, site_ring, Thrice}
use Rattle.mesh.specs.ThriceTheorem.{thrice_as}
use Rattle.voronoi.specs.Walks.{Walk}
use Rattle.voronoi.specs.Accepted.{checked_accepted}
use Rattle.voronoi.specs.Meshes.{Check}
use Rattle.voronoi.specs.laws.Written.{written}

-- l is what a walk round site s has written that was not refused and has ended
pub record EndedWalk (m : Mesh) (s : ℕ) (l : List ℕ) : Type 0 where
  pub work : List ℕ
  pub work' : List ℕ
  pub out : List ℕ
  pub out' : List ℕ
  pub count : ℕ
  pub walk : Walk m s work work' out out' count 1 0
  pub list : l ≡ take count out'

-- its triangles are the ring of the site
pub round_ring : {m : Mesh} {s : ℕ} {l : List ℕ} → EndedWalk m s l → walk_triangles l ≡ site_ring m s
round_ring r = ap walk_triangles r.list ∙ ap walk_triangles (written r.walk)

pub rounds_thrice : (m : Mesh) {w w' : List ℕ} → Check m w w' 0 → (walks : ℕ → List ℕ) → ((s : ℕ) → s < site_count m.sites → EndedWalk m s (walks s)) → (t : ℕ)
    → t < length m.triangles / 3 → Thrice m.triangles (λ s. walk_triangles (walks s)) (site_count m.sites) t
rounds_thrice m {w} {w'} c walks rounds = thrice_as (checked_accepted m w w' c).0 (λ s. walk_triangles (walks s)) (λ s h. round_ring (rounds s h))
