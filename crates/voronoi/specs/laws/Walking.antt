-- The lists that are handed out on an accepted mesh: a walk goes round its site, neighbours are joined to it, a path approaches its point; and those of a site in no triangle.
use Rattle.std.specs.Prelude.{◌≡◌, refl, true, List, [], ◌∷◌, ◌↔◌, ℕ, ◌≤◌, ◌<◌, Float, length, get_or, take}
use Rattle.std.proofs.Common.{ap, ◌∙◌, ⊎_elim, arith}
use Rattle.base.specs.common.Count.{occ}
use Rattle.plane.specs.points.Rules.{ok_site}
use Rattle.plane.specs.declared.points.Point.{Point}
use Rattle.mesh.specs.Mesh.{Used, leftmost_of, whole_of}
use Rattle.mesh.specs.Accepted.{Mesh, mesh, Accepted, site_count}
use Rattle.mesh.specs.laws.Facts.{topology, paired, tab_cases}
use Rattle.mesh.specs.laws.WalkSteps.{walk_done}
use Rattle.mesh.specs.laws.Degree.{walk_degree}
use Rattle.mesh.specs.WalkTheorem.{accepted_rounds}
use Rattle.walks.specs.paths.Path.{dist_of, whole_path}
use Rattle.walks.specs.paths.laws.Used.{used_sum}
use Rattle.walks.specs.paths.PathRule.{used_of, PathFrom}
use Rattle.walks.specs.paths.laws.WholePath.{in_use_or_alone, whole_short, whole_alone}
use Rattle.walks.specs.paths.PathTheorem.{path_holds}
use Rattle.walks.specs.paths.laws.PathNeeds.{ready, towards}
use Rattle.walks.specs.paths.laws.Parts.{rule_some, rule_first, rule_hops, rule_ends}
use Rattle.walks.specs.paths.laws.EachSite.{runs, never_twice, alone_walk, alone_neighbours, alone_path}
use Rattle.walks.specs.neighbours.laws.Joined.{neighbour_joined, joined_neighbour}
use Rattle.voronoi.specs.Walks.{Walk, Neighbours, Path}
use Rattle.voronoi.specs.Leaves.{QueryAllowed}
use Rattle.voronoi.specs.Approach.{WholeRound, next_to, Joined, Approaches}
use Rattle.voronoi.specs.laws.Written.{written, fitting}
use Rattle.voronoi.specs.laws.Answering.{site_answers, path_answers}

pub approaches : {d : ℕ → Float} {nb : ℕ → List ℕ} {s : ℕ} {l : List ℕ} → PathFrom d nb s l → Approaches d nb s l
approaches r = record { starts = (rule_some r, rule_first r); hops = λ i h. (rule_hops r i h).0; nearer = λ i h. (rule_hops r i h).1; stops = rule_ends r }

-- ---- how long they are
module _ {sites : List Float} {tri he hull : List ℕ} (m : Accepted (mesh sites tri he hull)) (s : ℕ) (l : s < site_count sites) where
  -- a walk has no more entries than the triangles name its site
  walk_short : length (whole_of he (get_or (leftmost_of tri he (site_count sites)) s 0)) ≤ occ s tri
  walk_short =
      let t = get_or (leftmost_of tri he (site_count sites)) s 0 in
      ⊎_elim
      (λ q. omega (arith, ap length (walk_done he t (length he) t (omega (arith, (paired (topology m)).small)))))
      (λ q. rw q.1 at (walk_degree tri he (paired (topology m)) (topology m).same t))
      (tab_cases (topology m) s l)

  -- a path no more than there are sites
  path_fits : (p : Point) → ok_site p ≡ true → length (whole_path sites tri he (leftmost_of tri he (site_count sites)) p s) ≤ site_count sites
  path_fits p to =
      let n = site_count sites in
      let tab = leftmost_of tri he n in
      let r = ready (topology m) in
      let t = towards sites p m.coordinates to in
      ⊎_elim
      (λ u. omega (arith, whole_short sites tri he tab p n r t s u, used_sum tri n))
      (λ q. omega (arith, ap length (whole_alone sites tri he tab p n r t s l q)))
      (in_use_or_alone sites tri he tab p n r t s l)

module _ (m : Mesh) (s : ℕ) {w w' o o' : List ℕ} where
  walk_mesh : {k e : ℕ} → Walk m s w w' o o' k e 0 → QueryAllowed m w (s < site_count m.sites)
  walk_mesh a = (site_answers m w s a.number).0 refl

  near_mesh : {k e : ℕ} → Neighbours m s w w' o o' k e 0 → QueryAllowed m w (s < site_count m.sites)
  near_mesh a = (site_answers m w s a.number).0 refl

  -- ---- walks
  pub walk_rounds : {k : ℕ} → Walk m s w w' o o' k 1 0 → WholeRound m.triangles m.halfedges s (take k o')
  walk_rounds a =
      let u = walk_mesh a in
      let r = accepted_rounds u.mesh s u.arguments in
      rw (written a) (record { each = r.each; only = r.only })

  pub walk_ends : {k e : ℕ} → Walk m s w w' o o' k e 0 → occ s m.triangles ≤ length o → e ≡ 1
  walk_ends a h = let u = walk_mesh a in (fitting a (omega (arith, walk_short u.mesh s u.arguments))).2

  pub no_walk : {k e : ℕ} → (Used m.triangles s → ⊥) → Walk m s w w' o o' k e 0 → (k ≡ 0) × (e ≡ 1)
  no_walk none a =
      let u = walk_mesh a in
      let q = ap length (alone_walk u.mesh s u.arguments none) in
      let x = fitting a (omega (arith, q)) in
      (x.1 ∙ q, x.2)

  -- ---- neighbours
  pub neighbours_joined : {k : ℕ} → Neighbours m s w w' o o' k 1 0 → (v : ℕ) → (0 < occ v (take k o')) ↔ Joined m.triangles m.halfedges s v
  neighbours_joined a v =
      let u = near_mesh a in
      rw (written a) (
        λ h. let x = neighbour_joined u.mesh s u.arguments v h in record { edge = x.0; inside = x.1; ends = x.2 },
        λ x. joined_neighbour u.mesh s u.arguments v (x.edge, x.inside, x.ends),
      )

  pub no_neighbours : {k e : ℕ} → (Used m.triangles s → ⊥) → Neighbours m s w w' o o' k e 0 → (k ≡ 0) × (e ≡ 1)
  no_neighbours none a =
      let u = near_mesh a in
      let q = ap length (alone_neighbours u.mesh s u.arguments none) in
      let x = fitting a (omega (arith, q)) in
      (x.1 ∙ q, x.2)

  -- ---- paths
  module _ (p : Point) where
    path_mesh : {k e : ℕ} → Path m s p w w' o o' k e 0 → QueryAllowed m w ((s < site_count m.sites) × (ok_site p ≡ true))
    path_mesh a = (path_answers m w s p a.number).0 refl

    pub path_approaches : {k : ℕ} → Path m s p w w' o o' k 1 0 → Approaches (dist_of m.sites p) (next_to m) s (take k o')
    path_approaches a = let u = path_mesh a in rw (written a) (approaches (runs u.mesh s u.arguments.0 p u.arguments.1))

    pub path_once : {k : ℕ} → Path m s p w w' o o' k 1 0 → (v : ℕ) → occ v (take k o') ≤ 1
    path_once a v = let u = path_mesh a in rw (written a) (never_twice u.mesh s u.arguments.0 p u.arguments.1 v)

    pub path_short : {k : ℕ} → Path m s p w w' o o' k 1 0 → Used m.triangles s → length (take k o') ≤ used_of m.triangles (site_count m.sites)
    path_short a used = let u = path_mesh a in rw (written a) (path_holds u.mesh p u.arguments.1 s used).short

    pub path_ended : {k e : ℕ} → Path m s p w w' o o' k e 0 → site_count m.sites ≤ length o → e ≡ 1
    path_ended a h = let u = path_mesh a in (fitting a (omega (arith, path_fits u.mesh s u.arguments.0 p u.arguments.1))).2

    pub own_path : {k e : ℕ} → (Used m.triangles s → ⊥) → 0 < length o → Path m s p w w' o o' k e 0 → (take k o' ≡ s ∷ []) × (e ≡ 1)
    own_path none some a =
        let u = path_mesh a in
        let q = alone_path u.mesh s u.arguments.0 none p u.arguments.1 in
        let x = fitting a (omega (arith, ap length q)) in
        (x.0 ∙ q, x.2)
