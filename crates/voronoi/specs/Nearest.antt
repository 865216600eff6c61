-- Theorem: where voronoi_grid_nearest answers 0 with kind 0, and the floats are those of voronoi_grid_sites, what voronoi_path writes, whole, ends at a site in
-- use of least distance over all sites in use; so do the ends that voronoi_ends writes, from a site in use; and the owners that voronoi_build and
-- voronoi_build_by_edges leave in counts are such sites for their corners, where the box's corners are admitted destinations, each in units of its own (Admitted of crate nearest_laws: whole and
-- half-whole numbers up to 33,546,239, multiples of 2^-11 up to 24,575; decimal numbers such as 10.1 are none). Where no site is told as unused, each is in use: then it
-- is of all sites. The proof is crate nearest_laws.
use Rattle.std.specs.Prelude.{◌≡◌, refl, List, ℕ, suc, ◌/◌, ◌<◌, Float, length, get_or, take}
use Rattle.std.proofs.Common.{ap, subst, arith, take_at}
use Rattle.std.specs.Float.{nan}
use Rattle.std.proofs.lemmas.List.{length-map}
use Rattle.base.specs.numbers.Numbers.{EMPTY}
use Rattle.base.specs.common.Count.{occ}
use Rattle.plane.specs.points.Flat.{point_at}
use Rattle.plane.specs.points.Plane.{at}
use Rattle.plane.specs.declared.points.Point.{Point}
use Rattle.plane.specs.boxes.Box.{corners_of}
use Rattle.plane.specs.declared.given.Given.{Given}
use Rattle.mesh.specs.Mesh.{Used}
use Rattle.mesh.specs.Accepted.{Mesh, mesh}
use Rattle.mesh.specs.laws.Occurs.{occ_there}
use Rattle.walks.specs.paths.Path.{last_of}
use Rattle.admission.specs.Slices.{Slices}
use Rattle.grid.specs.check.Promise.{GridMesh, grid_sites}
use Rattle.grid.specs.nearest.Yes.{NearestHolds, yes_holds, all_used}
use Rattle.grid.specs.floats.Sites.{as_float, floats_of}
use Rattle.nearest_laws.specs.Admitted.{AdmittedPoint}
use Rattle.nearest_laws.specs.Profile.{NearestSite, ends_nearest, owns_nearest}
use Rattle.queries.specs.bulk_ends.EndsTheorem.{begin_of, ends_mesh, end_is}
use Rattle.queries.specs.bulk_ends.UsedEnds.{begin_used}
use Rattle.reasons.specs.laws.Answer.{place_of}
use Rattle.voronoi.specs.Grids.{GridNearest, SitesOfGrid}
use Rattle.voronoi.specs.Walks.{Path}
use Rattle.voronoi.specs.Builds.{Build}
use Rattle.voronoi.specs.Bulk.{EndsOfPaths}
use Rattle.voronoi.specs.laws.Written.{written}
use Rattle.voronoi.specs.laws.Answering.{path_answers}
use Rattle.voronoi.specs.laws.Leaving.{build_answers}
use Rattle.voronoi.specs.laws.Wrapping.{build_owner}

-- the mesh that other calls are lent: the floats that voronoi_grid_sites wrote, without what follows them
abbrev pub gauges : GridMesh → List Float → Mesh
gauges g sites = mesh (take (length g.grid) sites) g.triangles g.halfedges g.hull

pub record NearestGauges (g : GridMesh) (sites : List Float) (unused : ℕ) : Type 0 where
  -- voronoi_path, from a site in use
  pub path : {k : ℕ} (s : ℕ) (p : Point) (d : AdmittedPoint k p) {w w' o o' : List ℕ} {n : ℕ} → Path (gauges g sites) s p w w' o o' n 1 0 → Used g.triangles s
      → NearestSite g.grid g.triangles d (last_of (take n o'))
  -- voronoi_ends, from a site in use: whatever the other points are, the end of one that is admitted
  pub ends : {k : ℕ} (s : ℕ) (points : List Float) {w w' o o' : List ℕ} → EndsOfPaths (gauges g sites) s points w w' o o' 0 → Used g.triangles s
      → (i : ℕ) → i < length points / 2 → (d : AdmittedPoint k (point_at points i)) → NearestSite g.grid g.triangles d (get_or o' i 0)
  -- voronoi_build, voronoi_build_by_edges
  pub owners : (b : Given) (ks : (c : ℕ) → c < 4 → ℕ) (d : (c : ℕ) (l : c < 4) → AdmittedPoint (ks c l) (get_or (corners_of b.bounds) c (at nan nan))) {old new : Slices}
      → Build (gauges g sites) b old new 0 → (c : ℕ) (l : c < 4) → NearestSite g.grid g.triangles (d c l) (get_or new.counts (suc c) 0)
  -- no unused site was told: "in use" says nothing
  pub everywhere : unused ≡ EMPTY → (s : ℕ) → s < grid_sites g → Used g.triangles s

-- the floats
pub floats_made : (g : GridMesh) {old sites : List Float} → SitesOfGrid g.grid old sites 0 → take (length g.grid) sites ≡ floats_of g.grid
floats_made g x = rw x.sites (take_at (floats_of g.grid) _ (length g.grid) (length-map g.grid as_float))

module _ (g : GridMesh) {w w' : List ℕ} {place unused : ℕ} (yes : GridNearest g w w' 0 0 place unused) where
  holds : NearestHolds g
  holds = yes_holds g w w' 0 0 place unused yes refl

  abbrev exact : Mesh
  exact = mesh (floats_of g.grid) g.triangles g.halfedges g.hull

  path_ends : {k : ℕ} (s : ℕ) (p : Point) (d : AdmittedPoint k p) {v v' o o' : List ℕ} {n : ℕ} → Path exact s p v v' o o' n 1 0 → Used g.triangles s
      → NearestSite g.grid g.triangles d (last_of (take n o'))
  path_ends s p d {v} x u =
      let a = ((path_answers exact v s p x.number).0 refl).mesh in
      rw (written x) (ends_nearest g.grid a holds.within holds.turns holds.circles holds.corners holds.lone p d s u)

  all_ends_lem : {k : ℕ} (s : ℕ) (points : List Float) {v v' o o' : List ℕ} → EndsOfPaths exact s points v v' o o' 0 → Used g.triangles s
      → (i : ℕ) → i < length points / 2 → (d : AdmittedPoint k (point_at points i)) → NearestSite g.grid g.triangles d (get_or o' i 0)
  all_ends_lem s points {o' = o'} x (j, l, q) i h d =
      let some = begin_used x (subst (λ (v : ℕ). 0 < occ v g.triangles) q (occ_there g.triangles j l)) i h in
      rw (end_is x i h) (ends_nearest g.grid (ends_mesh x) holds.within holds.turns holds.circles holds.corners holds.lone (point_at points i) d (begin_of s o' i)
      (place_of (begin_of s o' i) g.triangles some))

  corner_owners : (b : Given) (ks : (c : ℕ) → c < 4 → ℕ) (d : (c : ℕ) (l : c < 4) → AdmittedPoint (ks c l) (get_or (corners_of b.bounds) c (at nan nan))) {old new : Slices}
      → Build exact b old new 0 → (c : ℕ) (l : c < 4) → NearestSite g.grid g.triangles (d c l) (get_or new.counts (suc c) 0)
  corner_owners b ks d {old} {new} x c l =
      let a = ((build_answers exact b x).0 refl).mesh in
      rw (build_owner exact b x c l) (owns_nearest g.grid a holds.within holds.turns holds.circles holds.corners holds.lone b.bounds ks d c l)

  -- the theorem
  pub nearest_gauges : {old sites : List Float} → SitesOfGrid g.grid old sites 0 → NearestGauges g sites unused
  nearest_gauges {old} {sites} made =
      let q : gauges g sites ≡ exact = ap (λ l. mesh l g.triangles g.halfedges g.hull) (floats_made g made) in
      record {
        path = λ s p d {w = v} {w' = v'} {o} {o'} {n} x u. path_ends s p d (subst (λ m. Path m s p v v' o o' n 1 0) q x) u;
        ends = λ s points {w = v} {w' = v'} {o} {o'} x u i h d. all_ends_lem s points (subst (λ m. EndsOfPaths m s points v v' o o' 0) q x) u i h d;
        owners = λ b ks d {old} {new} x. corner_owners b ks d (subst (λ m. Build m b old new 0) q x);
        everywhere = λ e s l. all_used g w w' 0 0 place unused yes refl e s l (omega (arith, holds.counts.few_sites));
      }
