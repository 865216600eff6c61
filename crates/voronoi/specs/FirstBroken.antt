-- How demand 1 speaks of a call's number: it is that of the first rule that is broken, in the order in which RULES.md has the call try them, and 0 where none is (`Finds`).
use Rattle.std.specs.Prelude.{◌≡◌, true, ◌&&◌, List, [], ◌∷◌, ◌++◌, ℕ, ◌-◌, ◌/◌, ◌≤◌, ◌<◌, Float, ℤ, length}
use Rattle.base.specs.common.Refusals.{once, reads, Finds}
use Rattle.base.specs.numbers.Numbers.{refused_count, refused_room, refused_site, refused_coordinate, refused_circumcenter}
use Rattle.plane.specs.points.Rules.{ok_site}
use Rattle.plane.specs.points.Sites.{ok_sites}
use Rattle.plane.specs.declared.points.Point.{Point}
use Rattle.plane.specs.centers.Circumcenter.{center_of, ok_center}
use Rattle.plane.specs.centers.Centroid.{ok_count}
use Rattle.plane.specs.declared.given.Given.{Given}
use Rattle.plane.specs.lines.Line.{line_of}
use Rattle.plane.specs.rays.Ray.{ray_of}
use Rattle.mesh.specs.Accepted.{Mesh, site_count}
use Rattle.mesh.specs.Rules.{call_rules}
use Rattle.definition.specs.Build.{build}
use Rattle.cell_memory.specs.outputs.Outputs.{fault_of}
use Rattle.arguments.specs.asking.Asks.{site_rules, path_rules, box_rules, cell_rules}
use Rattle.admission.specs.Admits.{asked_rules}
use Rattle.admission.specs.Slices.{Slices, room_of}
use Rattle.queries.specs.bulk_neighbours.Promise.{RoomFor, lent_rules}
use Rattle.queries.specs.bulk_ends.Promise.{all_rules}
use Rattle.mending.specs.slices.Lent.{Lent}
use Rattle.mending.specs.Mending.{mend_room_of, mend_rules}
use Rattle.flipping.specs.call.Flips.{FlipLists, flip_rules}
use Rattle.grid.specs.scan.Judged.{grid_number}
use Rattle.grid.specs.check.Promise.{GridMesh, grid_rules}
use Rattle.grid.specs.nearest.Judged.{nearest_number}
use Rattle.grid.specs.nearest.Promise.{nearest_rules}
use Rattle.grid.specs.floats.Sites.{grid_site_rules}
use Rattle.reasons.specs.declared.Reason.{Reason}
use Rattle.reasons.specs.declared.ReasonNumbers.{ReasonNumbers}
use Rattle.reasons.specs.Reason.{told_by}
use Rattle.reasons.specs.Rules.{reason_rules, build_rules, answered}
use Rattle.reasons.specs.call.Call.{question_of}
use Rattle.plane_calls.specs.Plane.{plane_rules}
use Rattle.areas.specs.Promise.{area_rules}
use Rattle.auditing.specs.rules.Rules.{audit_rules}
use Rattle.certifying.specs.rules.Rules.{certify_rules}
use Rattle.cutting_calls.specs.cut_admission.CutSlices.{CutSlices, cut_room_of}
use Rattle.cutting_calls.specs.call.Promise.{cut_number}
use Rattle.wkb.specs.Polygon.{patterns}
use Rattle.wkb.specs.Promise.{wkb_rules}
use Rattle.wkb.specs.multipoint.Promise.{read_rules}
use Rattle.wkb.specs.multipoint_writer.Promise.{write_rules}
use Rattle.voronoi.specs.Plane.{Dist2, Circumcenter, Centroid, Edges, Centered, Corners, Inside, ExclusivelyInside, WhichEdge, Meets}
use Rattle.voronoi.specs.Meshes.{Check}
use Rattle.voronoi.specs.Walks.{Walk, Neighbours, ClippedNeighbours, Path, SharedEdge, CellsShareEdge}
use Rattle.voronoi.specs.Builds.{Build, Cell, CellPart}
use Rattle.voronoi.specs.Cuts.{Cut}
use Rattle.voronoi.specs.Explanations.{Why}
use Rattle.voronoi.specs.TrueReason.{why_rules}
use Rattle.voronoi.specs.Maps.{CellWkbBits, CellWkb}
use Rattle.voronoi.specs.Mends.{Mend}
use Rattle.voronoi.specs.Gauges.{ReadMultipoint, WriteMultipoint}
use Rattle.voronoi.specs.Grids.{GridCheck, GridNearest, SitesOfGrid}
use Rattle.voronoi.specs.Flips.{Flip}
use Rattle.voronoi.specs.Sizes.{Areas}
use Rattle.voronoi.specs.Bulk.{AllNeighbours, EndsOfPaths}
use Rattle.voronoi.specs.Audits.{Audit}
use Rattle.voronoi.specs.Certificates.{Certify}

-- roots, magnitudes, signs and voronoi_abs_diff_eq refuse nothing; the reader's 2 is in AfterRefusal, its 17 and 20 are the form's place (`read_exact` of crate reader)
pub record FirstBroken (m : Mesh) : Type 0 where
  -- points and the box
  pub dist2 : (a b : Point) {r : ℕ} {d : Float} → Dist2 a b r d → Finds (once refused_coordinate ((ok_site a && ok_site b) ≡ true) ∷ []) 0 r
  pub circumcenter : (a b c : Point) {r : ℕ} {x y : Float} → Circumcenter a b c r x y
      → Finds (once refused_coordinate ((ok_site a && ok_site b && ok_site c) ≡ true) ∷ once refused_circumcenter (ok_center (center_of a b c) ≡ true) ∷ []) 0 r
  pub centroid : (l : List Float) {r : ℕ} {x y : Float} → Centroid l r x y
      → Finds (once refused_count (ok_count l ≡ true) ∷ once refused_coordinate (ok_sites (length l / 2) l ≡ true) ∷ []) 0 r
  pub box : (g : Given) {n : ℕ} {l t r b a d : Float} → Edges g n l t r b a d → Finds (box_rules g.sound) 0 n
  pub box_center : (g : Given) {n : ℕ} {x y a d : Float} → Centered g n x y a d → Finds (box_rules g.sound) 0 n
  pub corners : (g : Given) {before after : List Float} {r : ℕ} → Corners g before r after → Finds (once refused_room (8 ≤ length before) ∷ box_rules g.sound) 0 r
  pub is_inside : (g : Given) (p : Point) {r y : ℕ} → Inside g p r y → Finds (plane_rules g (ok_site p)) 0 r
  pub is_exclusively_inside : (g : Given) (p : Point) {r y : ℕ} → ExclusivelyInside g p r y → Finds (plane_rules g (ok_site p)) 0 r
  pub which_edge : (g : Given) (p : Point) {r side : ℕ} → WhichEdge g p r side → Finds (plane_rules g (ok_site p)) 0 r
  pub intersect_line : (g : Given) (p q : Point) {r k : ℕ} {x y u v : Float} → Meets line_of g p q r k x y u v → Finds (plane_rules g (ok_site p && ok_site q)) 0 r
  pub project_ray : (g : Given) (p dir : Point) {r k : ℕ} {x y u v : Float} → Meets ray_of g p dir r k x y u v → Finds (plane_rules g (ok_site p && ok_site dir)) 0 r
  -- a lent mesh: 1, 2, what the call asks of its arguments, 6, 7 to 10, then 16 on lent cells
  pub check : {w w' : List ℕ} {r : ℕ} → Check m w w' r → Finds (call_rules m (site_count m.sites ≤ length w) [] ++ []) 0 r
  pub walk : (s : ℕ) {w w' o o' : List ℕ} {k e r : ℕ} → Walk m s w w' o o' k e r
      → Finds (call_rules m (site_count m.sites ≤ length w) (site_rules (site_count m.sites) s) ++ []) 0 r
  pub neighbours : (s : ℕ) {w w' o o' : List ℕ} {k e r : ℕ} → Neighbours m s w w' o o' k e r
      → Finds (call_rules m (site_count m.sites ≤ length w) (site_rules (site_count m.sites) s) ++ []) 0 r
  pub clipped_neighbours : (off ix : List ℕ) (s : ℕ) {w w' o o' : List ℕ} {k e r : ℕ} → ClippedNeighbours m off ix s w w' o o' k e r
      → Finds (call_rules m (site_count m.sites ≤ length w) (site_rules (site_count m.sites) s) ++ cell_rules off ix (site_count m.sites)) 0 r
  pub path : (s : ℕ) (p : Point) {w w' o o' : List ℕ} {k e r : ℕ} → Path m s p w w' o o' k e r
      → Finds (call_rules m (site_count m.sites ≤ length w) (path_rules (site_count m.sites) s p) ++ []) 0 r
  pub shared_edge : (a b : ℕ) {w w' : List ℕ} {e r : ℕ} → SharedEdge m a b w w' e r → Finds (call_rules m (site_count m.sites ≤ length w) [] ++ []) 0 r
  pub all_neighbours_lem : (off ix : List ℕ) {w w' st st' o o' : List ℕ} {r : ℕ} → AllNeighbours m off ix w w' st st' o o' r
      → Finds (call_rules m (RoomFor m (length w) (length st) (length o)) [] ++ lent_rules off ix (site_count m.sites)) 0 r
  pub ends : (s : ℕ) (points : List Float) {w w' o o' : List ℕ} {r : ℕ} → EndsOfPaths m s points w w' o o' r → Finds (all_rules m s points (length w) (length o)) 0 r
  -- the reason's number is that of the rules' reasons; what was asked has none
  pub why : (g : Given) (asked first second : ℕ) {old new : Slices} {t : ReasonNumbers} → Why m g asked first second old new t
      → Finds (reads (λ (r : Reason). (told_by r).number)
      (reason_rules m (room_of m old ≡ true) (why_rules m g (question_of asked first second)) ++ build_rules (build m g.bounds)))
      (told_by (answered m (question_of asked first second) (build m g.bounds))).number t.number
  -- a build's is then the outcome's, 11 to 14
  pub build : (g : Given) {old new : Slices} {r : ℕ} → Build m g old new r
      → Finds (call_rules m (room_of m old ≡ true) (box_rules g.sound) ++ asked_rules (fault_of (build m g.bounds)).number) 0 r
  -- a cutting's is then 11 or 25
  pub cut : (g : Given) {old new : CutSlices} {r k : ℕ} → Cut m g old new r k
      → Finds (call_rules m (cut_room_of m old ≡ true) (box_rules g.sound) ++ asked_rules (cut_number m g.bounds old.vertices)) 0 r
  -- cells
  pub cells_share_edge : (off ix : List ℕ) (a b : ℕ) {y r : ℕ} → CellsShareEdge off ix a b y r
      → Finds (once refused_site ((a < length off - 1) × (b < length off - 1)) ∷ cell_rules off ix (length off - 1)) 0 r
  pub cell : (off ix : List ℕ) (s : ℕ) {start long r : ℕ} → Cell off ix s start long r → Finds (site_rules (length off - 1) s ++ cell_rules off ix (length off - 1)) 0 r
  pub cell_part : (off ix : List ℕ) (s : ℕ) {part : List ℕ} {r : ℕ} → CellPart off ix s part r → Finds (site_rules (length off - 1) s ++ cell_rules off ix (length off - 1)) 0 r
  pub cell_wkb_bits : (v off ix : List ℕ) (s : ℕ) {out new : List ℕ} {k r : ℕ} → CellWkbBits v off ix s out new k r → Finds (wkb_rules v off ix s (length out)) 0 r
  pub cell_wkb : (v : List Float) (off ix : List ℕ) (s : ℕ) {out new : List ℕ} {k r : ℕ} → CellWkb v off ix s out new k r → Finds (wkb_rules (patterns v) off ix s (length out)) 0 r
  pub areas : (v : List Float) (off ix : List ℕ) {old new : List Float} {r : ℕ} → Areas v off ix old new r → Finds (area_rules v off ix (length old)) 0 r
  pub audit : (g : Given) (sites v : List Float) (off ix starts others : List ℕ) (bits : ℕ) {r k s e o : ℕ} {share : Float}
      → Audit g sites v off ix starts others bits r k s e o share → Finds (audit_rules g.sound sites v off ix starts others bits) 0 r
  pub certify : (g : Given) (sites v : List Float) (off ix : List ℕ) (bits : ℕ) {w w' : List ℕ} {r k s e o : ℕ}
      → Certify g sites v off ix bits w w' r k s e o → Finds (certify_rules g.sound sites v off ix bits (length w)) 0 r
  -- meshes that are mended and flipped, gauges in files, the grid
  pub mend : {old new : Lent} {r k p q : ℕ} → Mend m old new r k p q → Finds (mend_rules m (mend_room_of m.sites m.triangles old)) 0 r
  pub flip : (sites : ℕ) (hull : List ℕ) (a : ℕ) {old new : FlipLists} {r : ℕ} → Flip sites hull a old new r → Finds (flip_rules sites hull a old) 0 r
  pub read_multipoint : (s : List ℕ) {old new : List Float} {k r : ℕ} → ReadMultipoint s old new k r → Finds (read_rules s (length old)) 0 r
  pub write_multipoint : (sites : List Float) {old new : List ℕ} {k r : ℕ} → WriteMultipoint sites old new k r → Finds (write_rules sites (length old)) 0 r
  pub grid_check : (g : GridMesh) {w w' : List ℕ} {r k p : ℕ} → GridCheck g w w' r k p → Finds (reads grid_number (grid_rules g (length w))) 0 r
  pub grid_nearest : (g : GridMesh) {w w' : List ℕ} {r k p u : ℕ} → GridNearest g w w' r k p u → Finds (reads nearest_number (nearest_rules g (length w))) 0 r
  pub grid_sites_lem : (grid : List ℤ) {old new : List Float} {r : ℕ} → SitesOfGrid grid old new r → Finds (grid_site_rules grid (length old)) 0 r
