-- Theorem: what holds of the path from every site in use of every accepted mesh towards every admitted destination.
use Rattle.std.specs.Prelude.{◌≡◌, true, List, ◌∷◌, ◌++◌, ℕ, ◌≤◌, ◌<◌, length, take, Float}
use Rattle.std.proofs.Common.{arith}
use Rattle.base.specs.common.Count.{occ}
use Rattle.plane.specs.points.Rules.{ok_site}
use Rattle.plane.specs.declared.points.Point.{Point}
use Rattle.mesh.specs.Mesh.{Used, leftmost_of}
use Rattle.mesh.specs.Accepted.{Mesh, table_of, Accepted, site_count}
use Rattle.mesh.specs.laws.Facts.{topology, entry_site}
use Rattle.walks.specs.neighbours.Neighbours.{neighbours_of}
use Rattle.mesh.specs.laws.Occurs.{occ_there}
use Rattle.walks.specs.paths.Path.{dist_of, path_of, whole_path}
use Rattle.walks.specs.paths.PathRule.{used_of, PathFrom}
use Rattle.walks.specs.paths.laws.WholePath.{whole_runs, whole_same, whole_take, whole_short, whole_once, whole_rest, used_some}
use Rattle.walks.specs.paths.laws.PathNeeds.{ready, towards}

-- the whole path from s: it goes by the rule to its end, has no more entries than sites in use, lists no site twice; as much fuel as there are
-- sites in use gives it, and so does more; an allowance gives its beginning; and the path from a site on it is its rest
pub record PathHolds (sites : List Float) (tri he : List ℕ) (p : Point) (s : ℕ) (l : List ℕ) : Type 0 where
  pub rule : PathFrom (dist_of sites p) (neighbours_of tri he (leftmost_of tri he (site_count sites))) s l
  pub short : length l ≤ used_of tri (site_count sites)
  pub once : (v : ℕ) → occ v l ≤ 1
  pub stops : (k : ℕ) → used_of tri (site_count sites) ≤ k → path_of sites tri he (leftmost_of tri he (site_count sites)) p k s ≡ l
  pub begins : (k : ℕ) → path_of sites tri he (leftmost_of tri he (site_count sites)) p k s ≡ take k l
  pub rest : (a b : List ℕ) (v : ℕ) → l ≡ a ++ (v ∷ b) → whole_path sites tri he (leftmost_of tri he (site_count sites)) p v ≡ v ∷ b

pub path_holds : {m : Mesh} → Accepted m → (p : Point) → ok_site p ≡ true → (s : ℕ) → Used m.triangles s
    → PathHolds m.sites m.triangles m.halfedges p s (whole_path m.sites m.triangles m.halfedges (table_of m) p s)
path_holds {m} a p to s (k, l, q) =
    let n = site_count m.sites in
    let table = leftmost_of m.triangles m.halfedges n in
    let fine = ready (topology a) in
    let t = towards m.sites p a.coordinates to in
    let used : 0 < occ s m.triangles = rw q at (occ_there m.triangles k l) in
    let below : s < n = rw q at (entry_site (topology a) k l) in
    record {
      rule = whole_runs m.sites m.triangles m.halfedges table p n fine t s below;
      short = whole_short m.sites m.triangles m.halfedges table p n fine t s used;
      once = λ v. whole_once m.sites m.triangles m.halfedges table p n fine t s v below;
      stops = λ j h. whole_same m.sites m.triangles m.halfedges table p n fine t j s below (omega (arith, used_some m.sites m.triangles m.halfedges table p n fine t s used)) h;
      begins = λ j. whole_take m.sites m.triangles m.halfedges table p n fine t j s below;
      rest = whole_rest m.sites m.triangles m.halfedges table p n fine t s below;
    }
