-- Each site of an accepted mesh, in use or not: its path goes by the rule and lists no site twice. Of a site in no triangle the table holds EMPTY, so its walk and its
-- neighbours are none and its path is itself alone.
use Rattle.std.specs.Prelude.{◌≡◌, true, [], ◌∷◌, ℕ, ◌≤◌, ◌<◌, length, get_or}
use Rattle.std.proofs.Common.{arith}
use Rattle.base.specs.common.Count.{occ}
use Rattle.plane.specs.points.Rules.{ok_site}
use Rattle.plane.specs.declared.points.Point.{Point}
use Rattle.mesh.specs.Mesh.{Used, whole_of}
use Rattle.mesh.specs.Accepted.{Mesh, table_of, Accepted, site_count}
use Rattle.mesh.specs.laws.Facts.{topology, paired, tab_unused}
use Rattle.mesh.specs.laws.WalkSteps.{walk_done}
use Rattle.walks.specs.neighbours.Neighbours.{starts_of, neighbours_of}
use Rattle.walks.specs.paths.Path.{dist_of, whole_path}
use Rattle.walks.specs.paths.laws.WholePath.{whole_runs, whole_once, whole_alone}
use Rattle.walks.specs.paths.PathRule.{PathFrom}
use Rattle.walks.specs.paths.laws.PathNeeds.{ready, towards}

module _ {m : Mesh} (a : Accepted m) (s : ℕ) (below : s < site_count m.sites) (p : Point) (to : ok_site p ≡ true) where
  pub runs : PathFrom (dist_of m.sites p) (neighbours_of m.triangles m.halfedges (table_of m)) s (whole_path m.sites m.triangles m.halfedges (table_of m) p s)
  runs = whole_runs m.sites m.triangles m.halfedges (table_of m) p (site_count m.sites) (ready (topology a)) (towards m.sites p a.coordinates to) s below

  pub never_twice : (v : ℕ) → occ v (whole_path m.sites m.triangles m.halfedges (table_of m) p s) ≤ 1
  never_twice v = whole_once m.sites m.triangles m.halfedges (table_of m) p (site_count m.sites) (ready (topology a)) (towards m.sites p a.coordinates to) s v below

module _ {m : Mesh} (a : Accepted m) (s : ℕ) (below : s < site_count m.sites) (none : Used m.triangles s → ⊥) where
  pub alone_walk : whole_of m.halfedges (get_or (table_of m) s 0) ≡ []
  alone_walk =
      let e = get_or (table_of m) s 0 in
      walk_done m.halfedges e (length m.halfedges) e (omega (arith, tab_unused (topology a) s below none, (paired (topology a)).small))

  pub alone_neighbours : neighbours_of m.triangles m.halfedges (table_of m) s ≡ []
  unfolding neighbours_of starts_of
  alone_neighbours = rw alone_walk

  pub alone_path : (p : Point) → ok_site p ≡ true → whole_path m.sites m.triangles m.halfedges (table_of m) p s ≡ s ∷ []
  alone_path p to =
      whole_alone m.sites m.triangles m.halfedges (table_of m) p (site_count m.sites) (ready (topology a)) (towards m.sites p a.coordinates to) s below alone_neighbours
