-- Theorem: the three demands on the public calls, proved of every input. They speak of the calls' promises (Plane, Meshes, Walks, Builds): what is said of an outcome holds of
-- every outcome that its promise allows. That a call ends on every input, and keeps its promise, is what the check proves of its function. The words that they use are
-- in Outcomes, AfterRefusal, FirstBroken, Leaves, Bounds, Approach and Wraps.
use Rattle.std.specs.Prelude.{◌≡◌, true, List, [], ◌∷◌, map, ◌≢◌, ◌↔◌, ℕ, suc, ◌+◌, ◌-◌, ◌/◌, ◌%◌, ◌^◌, ◌≤◌, ◌<◌, Float, ℤ, length, get_or, take, drop}
use Rattle.std.specs.Float.{nan, binary64}
use Rattle.std.specs.Float.Ieee.{of_bits, to_bits}
use Rattle.base.specs.numbers.Numbers.{EMPTY}
use Rattle.base.specs.common.Count.{occ}
use Rattle.root.specs.Root.{Root, RootBits, magnitude, signum}
use Rattle.root.specs.Bounded.{Bounded}
use Rattle.plane.specs.points.Flat.{point_at}
use Rattle.plane.specs.points.Plane.{near_of}
use Rattle.plane.specs.points.Rules.{ok_site}
use Rattle.plane.specs.declared.points.Point.{Point}
use Rattle.plane.specs.given.Given.{by_size, by_edges}
use Rattle.plane.specs.given.Finite.{Fits, size_fits, edges_fit}
use Rattle.plane.specs.declared.given.Given.{Given}
use Rattle.plane.specs.lines.Line.{line_of}
use Rattle.plane.specs.rays.Ray.{ray_of}
use Rattle.plane_calls.specs.Plane.{bit}
use Rattle.mesh.specs.Mesh.{whole_of, Used}
use Rattle.mesh.specs.Accepted.{Mesh, table_of, site_count}
use Rattle.queries.specs.clipped.Clipped.{clipped_neighbours_of}
use Rattle.walks.specs.paths.Path.{dist_of, whole_path}
use Rattle.walks.specs.paths.PathRule.{used_of}
use Rattle.definition.specs.Build.{build}
use Rattle.arguments.specs.asking.Asks.{CellsOf}
use Rattle.admission.specs.Slices.{Slices}
use Rattle.mending.specs.slices.Lent.{Lent}
use Rattle.voronoi.specs.Mends.{Mend}
use Rattle.reader.specs.Calls.{FormLists}
use Rattle.voronoi.specs.Forms.{ReaderBegin, ReaderFeed, ReaderEnd, ReadForm}
use Rattle.voronoi.specs.One.{one_reader_begin, one_reader_feed, one_reader_end, one_read_form, one_read_multipoint, one_write_multipoint, one_grid_check, one_grid_nearest, one_grid_sites}
use Rattle.voronoi.specs.One.{one_areas, one_all_neighbours, one_ends, one_mend, one_cell_wkb_bits, one_cell_wkb, one_root_bits, one_root, one_magnitude_bits, one_magnitude, one_signum_bits}
use Rattle.voronoi.specs.One.{one_signum, one_near, one_dist2, one_circumcenter, one_centroid, one_box, one_box_center, one_corners, one_inside, one_exclusively, one_side, one_meeting, one_flip}
use Rattle.voronoi.specs.One.{one_check, one_walk, one_neighbours, one_clipped, one_path, one_shared_edge, one_cells_share_edge, one_build, one_cut, one_why, one_cell, one_cell_part}
use Rattle.voronoi.specs.One.{one_all_wkb, one_version}
use Rattle.voronoi.specs.Gauges.{ReadMultipoint, WriteMultipoint}
use Rattle.grid.specs.check.Promise.{GridMesh}
use Rattle.voronoi.specs.Grids.{GridCheck, GridNearest, SitesOfGrid}
use Rattle.voronoi.specs.Nearest.{NearestGauges, nearest_gauges}
use Rattle.voronoi.specs.Sizes.{Areas}
use Rattle.queries.specs.bulk_neighbours.Promise.{CellsLent}
use Rattle.queries.specs.bulk_ends.Promise.{PointsKept}
use Rattle.voronoi.specs.Bulk.{AllNeighbours, EndsOfPaths}
use Rattle.voronoi.specs.Outcomes.{OneAll, AllRefused, OneImages, ImagesRefused, One, One₂, One₃, OneList, OneMend, OneMeeting, OneBox, OneCenter, SliceRefused, ListRefused, BuildRefused}
use Rattle.voronoi.specs.Outcomes.{CutRefused, OneGrid, OneNearest, OneAudit, OneCertificate, FlipRefused}
use Rattle.voronoi.specs.laws.Refused.{all_refused, images_refused, ends_refused, work_refused, list_refused, slices_refused, cut_refused, lists_refused}
use Rattle.voronoi.specs.Audits.{Audit}
use Rattle.auditing.specs.One.{one_audit}
use Rattle.voronoi.specs.Certificates.{Certify}
use Rattle.certifying.specs.call.One.{one_certify}
use Rattle.voronoi.specs.Plane.{Dist2, Circumcenter, Centroid, Edges, Centered, Corners, Inside, ExclusivelyInside, WhichEdge, Meets}
use Rattle.flipping.specs.call.Flips.{FlipLists}
use Rattle.voronoi.specs.Flips.{Flip}
use Rattle.voronoi.specs.Meshes.{Check}
use Rattle.voronoi.specs.Walks.{Walk, Neighbours, ClippedNeighbours, Path, SharedEdge, CellsShareEdge}
use Rattle.voronoi.specs.Builds.{Build, Cell, CellPart}
use Rattle.cutting_calls.specs.cut_admission.CutSlices.{CutSlices}
use Rattle.voronoi.specs.Cuts.{Cut}
use Rattle.walks.specs.shared.Cells.{cell_of}
use Rattle.ring_area.specs.Steps.{gains_of, losses_of}
use Rattle.area_laws.specs.AreaSign.{SignTrue}
use Rattle.reasons.specs.declared.ReasonNumbers.{ReasonNumbers}
use Rattle.reasons.specs.call.Call.{question_of}
use Rattle.voronoi.specs.Explanations.{Why}
use Rattle.voronoi.specs.AfterRefusal.{AfterRefusal}
use Rattle.voronoi.specs.FirstBroken.{FirstBroken}
use Rattle.voronoi.specs.TrueReason.{TrueReason, true_reason}
use Rattle.voronoi.specs.SignedAreas.{signed_areas}
use Rattle.voronoi.specs.laws.AfterRefusal.{after_refusal}
use Rattle.voronoi.specs.laws.FirstBroken.{first_broken}
use Rattle.voronoi.specs.Maps.{CellWkbBits, CellWkb, AllWkb}
use Rattle.library_version.specs.Version.{version}
use Rattle.voronoi.specs.Leaves.{QueryAllowed, BuildAllowed, BuildLeaves}
use Rattle.voronoi.specs.Bounds.{BoundedEdges, BoundedCenter, BoundedMeeting, Bounds, bounds}
use Rattle.voronoi.specs.Approach.{WholeRound, next_to, Joined, Approaches}
use Rattle.voronoi.specs.Wraps.{Wraps}
use Rattle.voronoi.specs.laws.Answering.{all_answers, ends_answers, check_answers, site_answers, cells_answers, path_answers, edge_answers}
use Rattle.voronoi.specs.laws.Leaving.{build_answers, build_leaves, build_empty}
use Rattle.voronoi.specs.laws.PlaneBounds.{dist2_answer, circumcenter_answer, centroid_answer_lem, box_answer, center_answer_lem, corners_answer, line_answer_lem, ray_answer_lem}
use Rattle.voronoi.specs.laws.Written.{written, begins, rest}
use Rattle.voronoi.specs.laws.Walking.{walk_rounds, walk_ends, no_walk, neighbours_joined, no_neighbours, path_approaches, path_once, path_short, path_ended, own_path}
use Rattle.voronoi.specs.laws.Wrapping.{build_wraps}

-- ---- 1. Every public call ends with an answer on every input; a refusal has its number (docs/use/RULES.md), and each lent slice then holds exactly what is promised.

-- one outcome for each input of each call; then what a refusal leaves. A box g is given by its center and size or by its edges: what is said of a call holds of the call by edges too.
pub record Demand1 (m : Mesh) : Type 0 where
  -- voronoi_version
  pub version : One (λ r. r ≡ version)
  -- voronoi_root_bits, of patterns of 64 bits
  pub root_bits : (b : ℕ) → One (λ r. (r < 2 ^ 64) × RootBits b r)
  -- voronoi_root
  pub root : (x : Float) → One (Root x)
  -- voronoi_magnitude_bits
  pub magnitude_bits : (b : ℕ) → One (λ r. r ≡ b % 2 ^ 63)
  -- voronoi_magnitude
  pub magnitude : (x : Float) → One (λ r. r ≡ magnitude x)
  -- voronoi_signum_bits
  pub signum_bits : (b : ℕ) → One (λ r. r ≡ to_bits binary64 (signum (of_bits binary64 b)))
  -- voronoi_signum
  pub signum : (x : Float) → One (λ r. r ≡ signum x)
  -- voronoi_abs_diff_eq
  pub abs_diff_eq : (a b : Float) → One (λ r. r ≡ bit (near_of a b))
  -- voronoi_dist2: the number, the distance
  pub dist2 : (a b : Point) → One₂ (Dist2 a b)
  -- voronoi_circumcenter: the number, x, y
  pub circumcenter : (a b c : Point) → One₃ (Circumcenter a b c)
  -- voronoi_centroid: the number, x, y
  pub centroid : (l : List Float) → One₃ (Centroid l)
  -- voronoi_box: the number, left, top, right, bottom, width, height
  pub box : (g : Given) → OneBox (Edges g)
  -- voronoi_box_by_edges: the number, the center, width, height
  pub box_center : (g : Given) → OneCenter (Centered g)
  -- voronoi_corners: the number, the slice
  pub corners : (g : Given) (l : List Float) → One₂ (Corners g l)
  -- voronoi_is_inside: the number, yes or no
  pub is_inside : (g : Given) (p : Point) → One₂ (Inside g p)
  -- voronoi_is_exclusively_inside
  pub is_exclusively_inside : (g : Given) (p : Point) → One₂ (ExclusivelyInside g p)
  -- voronoi_which_edge: the number, the side
  pub which_edge : (g : Given) (p : Point) → One₂ (WhichEdge g p)
  -- voronoi_intersect_line: the number, how many, two points
  pub intersect_line : (g : Given) (p q : Point) → OneMeeting (Meets line_of g p q)
  -- voronoi_project_ray
  pub project_ray : (g : Given) (p dir : Point) → OneMeeting (Meets ray_of g p dir)
  -- voronoi_check: the number, the work slice
  pub check : (w : List ℕ) → One₂ (λ r w'. Check m w w' r)
  -- voronoi_walk: the number, the work slice, the output slice, the count, ended
  pub walk : (s : ℕ) (w o : List ℕ) → OneList (λ r w' o' k e. Walk m s w w' o o' k e r)
  -- voronoi_neighbours
  pub neighbours : (s : ℕ) (w o : List ℕ) → OneList (λ r w' o' k e. Neighbours m s w w' o o' k e r)
  -- voronoi_clipped_neighbours
  pub clipped_neighbours : (off ix : List ℕ) (s : ℕ) (w o : List ℕ) → OneList (λ r w' o' k e. ClippedNeighbours m off ix s w w' o o' k e r)
  -- voronoi_path
  pub path : (s : ℕ) (p : Point) (w o : List ℕ) → OneList (λ r w' o' k e. Path m s p w w' o o' k e r)
  -- voronoi_shared_edge: the number, the work slice, the edge
  pub shared_edge : (a b : ℕ) (w : List ℕ) → One₃ (λ r w' e. SharedEdge m a b w w' e r)
  -- voronoi_cells_share_edge: the number, yes or no
  pub cells_share_edge : (off ix : List ℕ) (a b : ℕ) → One₂ (λ r y. CellsShareEdge off ix a b y r)
  -- voronoi_build: the number, all five slices
  pub build : (g : Given) (old : Slices) → One₂ (λ r new. Build m g old new r)
  -- voronoi_cut: the number, all four slices, the count
  pub cut : (g : Given) (old : CutSlices) → One₃ (λ r new k. Cut m g old new r k)
  -- voronoi_why: the number, the kind and the places; all five slices
  pub why : (g : Given) (asked first second : ℕ) (old : Slices) → One₂ (λ t new. Why m g asked first second old new t)
  -- voronoi_cell: the number, start, length
  pub cell : (off ix : List ℕ) (s : ℕ) → One₃ (λ r start long. Cell off ix s start long r)
  -- cell: the number, the part
  pub cell_part : (off ix : List ℕ) (s : ℕ) → One₂ (λ r part. CellPart off ix s part r)
  -- voronoi_cell_wkb_bits, voronoi_cell_wkb: the number, the bytes written, the output
  pub cell_wkb_bits : (v off ix : List ℕ) (s : ℕ) (out : List ℕ) → One₃ (λ r k new. CellWkbBits v off ix s out new k r)
  pub cell_wkb : (v : List Float) (off ix : List ℕ) (s : ℕ) (out : List ℕ) → One₃ (λ r k new. CellWkb v off ix s out new k r)
  -- voronoi_all_wkb: the number, the bytes written, the starts, the output
  pub all_wkb : (v : List Float) (off ix st out : List ℕ) → OneImages (λ r k st' new. AllWkb v off ix st st' out new k r)
  -- voronoi_mend: the number, the four slices, the hull's length, the changes of pairs and of the hull
  pub mend : (old : Lent) → OneMend (λ r new k p q. Mend m old new r k p q)
  -- voronoi_reader_begin: the number, the state
  pub reader_begin : (ws : List ℕ) → One₂ (λ r ws'. ReaderBegin ws ws' r)
  -- voronoi_reader_feed: the number and the byte, the state, the five lists
  pub reader_feed : (ws : List ℕ) (l : FormLists) (s : List ℕ) → One₃ (λ a ws' l'. ReaderFeed ws l s ws' l' a)
  -- voronoi_reader_end: the number, the byte and the counts; the state
  pub reader_end : (ws : List ℕ) → One₂ (λ t ws'. ReaderEnd ws ws' t)
  -- voronoi_read_form: the number, the byte and the counts; the five lists
  pub read_form_lem : (l : FormLists) (s : List ℕ) → One₂ (λ t l'. ReadForm l s l' t)
  -- voronoi_read_multipoint: the number, the count, the sites
  pub read_multipoint : (s : List ℕ) (old : List Float) → One₃ (λ r k new. ReadMultipoint s old new k r)
  -- voronoi_write_multipoint: the number, the bytes written, the output
  pub write_multipoint : (sites : List Float) (old : List ℕ) → One₃ (λ r w new. WriteMultipoint sites old new w r)
  -- voronoi_grid_check: the number, the kind, the place, the work slice
  pub grid_check : (g : GridMesh) (w : List ℕ) → OneGrid (λ r k p w'. GridCheck g w w' r k p)
  -- voronoi_grid_nearest: the number, the kind, the place, the unused site, the work slice
  pub grid_nearest : (g : GridMesh) (w : List ℕ) → OneNearest (λ r k p u w'. GridNearest g w w' r k p u)
  -- voronoi_grid_sites: the number, the slice
  pub grid_sites_lem : (grid : List ℤ) (old : List Float) → One₂ (λ r new. SitesOfGrid grid old new r)
  -- voronoi_flip: the number, the four lists
  pub flip : (sites : ℕ) (hull : List ℕ) (a : ℕ) (old : FlipLists) → One₂ (λ r new. Flip sites hull a old new r)
  -- voronoi_areas: the number, the areas
  pub areas : (v : List Float) (off ix : List ℕ) (old : List Float) → One₂ (λ r new. Areas v off ix old new r)
  -- voronoi_all_neighbours: the number, the work slice, the starts, the output slice
  pub all_neighbours_lem : (off ix : List ℕ) (w st o : List ℕ) → OneAll (λ r w' st' o'. AllNeighbours m off ix w w' st st' o o' r)
  -- voronoi_ends: the number, the work slice, the output slice
  pub ends : (s : ℕ) (points : List Float) (w o : List ℕ) → One₃ (λ r w' o'. EndsOfPaths m s points w w' o o' r)
  -- voronoi_audit: the number, the kind, the site, the vertex, the other, the missing share
  pub audit : (g : Given) (sites v : List Float) (off ix starts others : List ℕ) (bits : ℕ) → OneAudit (λ r k s e o m. Audit g sites v off ix starts others bits r k s e o m)
  -- voronoi_certify: the number, the kind, the site, the vertex, the other, the work slice
  pub certify : (g : Given) (sites v : List Float) (off ix : List ℕ) (bits : ℕ) (w : List ℕ) → OneCertificate (λ r k s e o w'. Certify g sites v off ix bits w w' r k s e o)
  -- refused by voronoi_check: the work slice
  pub check_refused : {w w' : List ℕ} {r : ℕ} → Check m w w' r → r ≢ 0 → SliceRefused EMPTY w w' r
  -- by a call that hands out a list: the work slice, the output slice, the count, ended
  pub walk_refused : (s : ℕ) {w w' o o' : List ℕ} {k e r : ℕ} → Walk m s w w' o o' k e r → r ≢ 0 → ListRefused w w' o o' k e r
  pub neighbours_refused : (s : ℕ) {w w' o o' : List ℕ} {k e r : ℕ} → Neighbours m s w w' o o' k e r → r ≢ 0 → ListRefused w w' o o' k e r
  pub clipped_refused : (off ix : List ℕ) (s : ℕ) {w w' o o' : List ℕ} {k e r : ℕ}
      → ClippedNeighbours m off ix s w w' o o' k e r → r ≢ 0 → ListRefused w w' o o' k e r
  pub path_refused : (s : ℕ) (p : Point) {w w' o o' : List ℕ} {k e r : ℕ} → Path m s p w w' o o' k e r → r ≢ 0 → ListRefused w w' o o' k e r
  -- by voronoi_shared_edge: the work slice
  pub shared_edge_refused : (a b : ℕ) {w w' : List ℕ} {e r : ℕ} → SharedEdge m a b w w' e r → r ≢ 0 → SliceRefused EMPTY w w' r
  -- by the calls for all gauges at once: the work slice, the starts, the output slice
  pub all_neighbours_refused : (off ix : List ℕ) {w w' st st' o o' : List ℕ} {r : ℕ} → AllNeighbours m off ix w w' st st' o o' r → r ≢ 0
      → AllRefused w w' st st' o o' r
  pub ends_refused : (s : ℕ) (points : List Float) {w w' o o' : List ℕ} {r : ℕ} → EndsOfPaths m s points w w' o o' r → r ≢ 0
      → SliceRefused EMPTY w w' r × SliceRefused EMPTY o o' r
  -- by voronoi_all_wkb: the starts, the output, the bytes written
  pub all_wkb_refused : (v : List Float) (off ix : List ℕ) {st st' o o' : List ℕ} {k r : ℕ} → AllWkb v off ix st st' o o' k r → r ≢ 0 → ImagesRefused st st' o o' k
  -- by a build: all five slices
  pub build_refused : (g : Given) {old new : Slices} {r : ℕ} → Build m g old new r → r ≢ 0 → BuildRefused old new r
  -- by cutting: all four slices, and no vertex
  pub cut_refused : (g : Given) {old new : CutSlices} {r k : ℕ} → Cut m g old new r k → r ≢ 0 → CutRefused old new r k
  -- by a flip: triangles, half-edges and table stay
  pub flip_refused : (sites : ℕ) (hull : List ℕ) (a : ℕ) {old new : FlipLists} {r : ℕ} → Flip sites hull a old new r → r ≢ 0 → FlipRefused old new r
  -- by every other call
  pub others_refused : AfterRefusal m
  -- and of every call that its number is that of the first rule broken
  pub first_rule : FirstBroken m

-- ---- 2. On every admitted input vertices, cells, walks and paths are the definition's, bit for bit: every number answered is finite, so that its pattern is meant.

pub record Demand2 (m : Mesh) : Type 0 where
  -- a query answers 0 exactly where the mesh is accepted, there is room, and its own arguments are sound
  pub check_answers : {w w' : List ℕ} {r : ℕ} → Check m w w' r → (r ≡ 0) ↔ QueryAllowed m w (Unit {0})
  pub walk_answers : (s : ℕ) {w w' o o' : List ℕ} {k e r : ℕ} → Walk m s w w' o o' k e r → (r ≡ 0) ↔ QueryAllowed m w (s < site_count m.sites)
  pub neighbours_answers : (s : ℕ) {w w' o o' : List ℕ} {k e r : ℕ} → Neighbours m s w w' o o' k e r
      → (r ≡ 0) ↔ QueryAllowed m w (s < site_count m.sites)
  pub clipped_answers : (off ix : List ℕ) (s : ℕ) {w w' o o' : List ℕ} {k e r : ℕ} → ClippedNeighbours m off ix s w w' o o' k e r
      → (r ≡ 0) ↔ QueryAllowed m w ((s < site_count m.sites) × CellsOf off ix (site_count m.sites))
  pub path_answers : (s : ℕ) (p : Point) {w w' o o' : List ℕ} {k e r : ℕ} → Path m s p w w' o o' k e r
      → (r ≡ 0) ↔ QueryAllowed m w ((s < site_count m.sites) × (ok_site p ≡ true))
  -- so do the calls for all gauges at once: room for starts and lists and sound cells where they are lent; an even list of points, room for their ends, a site, sound points
  pub all_neighbours_answers : (off ix : List ℕ) {w w' st st' o o' : List ℕ} {r : ℕ} → AllNeighbours m off ix w w' st st' o o' r
      → (r ≡ 0) ↔ QueryAllowed m w ((site_count m.sites < length st) × (length m.triangles + length m.hull ≤ length o) × CellsLent off ix (site_count m.sites))
  pub ends_answers : (s : ℕ) (points : List Float) {w w' o o' : List ℕ} {r : ℕ} → EndsOfPaths m s points w w' o o' r
      → (r ≡ 0) ↔ QueryAllowed m w ((length points % 2 ≡ 0) × (length points / 2 ≤ length o) × (s < site_count m.sites) × PointsKept points)
  pub shared_edge_answers : (a b : ℕ) {w w' : List ℕ} {e r : ℕ} → SharedEdge m a b w w' e r → (r ≡ 0) ↔ QueryAllowed m w (Unit {0})
  -- a box fits that is given by its center and size, and one that is given by its edges: all that is asked of a box below
  pub by_size_lem : (c : Point) (w h : Float) → Fits (by_size c w h)
  pub by_edges_lem : (l t r b : Float) → Fits (by_edges l t r b)
  -- a build answers 0 exactly where mesh, room, box and definition allow it
  pub build_answers : (g : Given) {old new : Slices} {r : ℕ} → Build m g old new r
      → (r ≡ 0) ↔ BuildAllowed m (g.sound ≡ true) (build m g.bounds) old
  -- and leaves the definition's vertices, cells, owners and lost corners; each number finite; the cell queries hand the definition's cells back
  pub build_leaves : (g : Given) → Fits g → {old new : Slices} → Build m g old new 0
      → BuildLeaves (site_count m.sites) (table_of m) (build m g.bounds) old new
  -- a walk that has ended is the definition's, from the leftmost half-edge of the site
  pub walk : (s : ℕ) {w w' o o' : List ℕ} {k : ℕ} → Walk m s w w' o o' k 1 0 → take k o' ≡ whole_of m.halfedges (get_or (table_of m) s 0)
  -- so are neighbours, before clipping and after it
  pub neighbours : (s : ℕ) {w w' o o' : List ℕ} {k : ℕ} → Neighbours m s w w' o o' k 1 0 → take k o' ≡ next_to m s
  pub clipped_neighbours : (off ix : List ℕ) (s : ℕ) {w w' o o' : List ℕ} {k : ℕ} → ClippedNeighbours m off ix s w w' o o' k 1 0
      → take k o' ≡ clipped_neighbours_of m.triangles m.halfedges (table_of m) off ix s
  -- so is a path
  pub path : (s : ℕ) (p : Point) {w w' o o' : List ℕ} {k : ℕ} → Path m s p w w' o o' k 1 0
      → take k o' ≡ whole_path m.sites m.triangles m.halfedges (table_of m) p s
  -- no accepted answer of a call on points and the box is a NaN: each is finite, at most the power of 2 that is named
  pub dist2 : (a b : Point) {d : Float} → Dist2 a b 0 d → Bounded 203 d
  pub circumcenter : (a b c : Point) {x y : Float} → Circumcenter a b c 0 x y → Bounded 400 x × Bounded 400 y
  pub centroid : (l : List Float) {x y : Float} → Centroid l 0 x y → Bounded 100 x × Bounded 100 y
  pub box : (g : Given) → Fits g → {l t r b a d : Float} → Edges g 0 l t r b a d → BoundedEdges l t r b a d
  pub box_center : (l t r b : Float) {x y a d : Float} → Centered (by_edges l t r b) 0 x y a d → BoundedCenter x y a d
  pub corners : (g : Given) → Fits g → {before after : List Float} → Corners g before 0 after → (i : ℕ) → i < length after → Bounded 101 (get_or after i nan)
  pub intersect_line : (g : Given) → Fits g → (p q : Point) {k : ℕ} {x y u v : Float} → Meets line_of g p q 0 k x y u v → BoundedMeeting x y u v
  pub project_ray : (g : Given) → Fits g → (p dir : Point) {k : ℕ} {x y u v : Float} → Meets ray_of g p dir 0 k x y u v → BoundedMeeting x y u v
  -- nor is a value on the way to one
  pub within : Bounds

-- ---- 3. On every accepted mesh a walk lists each half-edge of its site exactly once, a path strictly approaches its point and stops exactly where no neighbour is nearer,
-- and each box corner is wrapped at most once, by its owner.

pub record Demand3 (m : Mesh) : Type 0 where
  -- the whole walk: each half-edge that ends at the site exactly once, and no other
  pub walk : (s : ℕ) {w w' o o' : List ℕ} {k : ℕ} → Walk m s w w' o o' k 1 0 → WholeRound m.triangles m.halfedges s (take k o')
  -- a slice with an entry for each time that the triangles name the site gets the whole of it
  pub walk_ends : (s : ℕ) {w w' o o' : List ℕ} {k e : ℕ} → Walk m s w w' o o' k e 0 → occ s m.triangles ≤ length o → e ≡ 1
  -- a shorter slice gets exactly its beginning, and stays as it was after it
  pub walk_begins : (s : ℕ) {v v' x x' w w' o o' : List ℕ} {j k e : ℕ} → Walk m s v v' x x' j 1 0 → Walk m s w w' o o' k e 0
      → (take k o' ≡ take (length o) (take j x')) × (drop k o' ≡ drop k o)
  -- the neighbours are exactly the sites that a half-edge joins to the site
  pub neighbours : (s : ℕ) {w w' o o' : List ℕ} {k : ℕ} → Neighbours m s w w' o o' k 1 0 → (v : ℕ) → (0 < occ v (take k o')) ↔ Joined m.triangles m.halfedges s v
  -- the whole path: from its site, each hop to the first of the nearest neighbours, each strictly nearer, to where none is nearer
  pub path : (s : ℕ) (p : Point) {w w' o o' : List ℕ} {k : ℕ} → Path m s p w w' o o' k 1 0 → Approaches (dist_of m.sites p) (next_to m) s (take k o')
  -- no site stands on it twice
  pub path_once : (s : ℕ) (p : Point) {w w' o o' : List ℕ} {k : ℕ} → Path m s p w w' o o' k 1 0 → (v : ℕ) → occ v (take k o') ≤ 1
  -- it has no more entries than there are sites in use
  pub path_short : (s : ℕ) (p : Point) {w w' o o' : List ℕ} {k : ℕ} → Path m s p w w' o o' k 1 0 → Used m.triangles s
      → length (take k o') ≤ used_of m.triangles (site_count m.sites)
  -- a slice with an entry for each site gets the whole of it
  pub path_ends : (s : ℕ) (p : Point) {w w' o o' : List ℕ} {k e : ℕ} → Path m s p w w' o o' k e 0 → site_count m.sites ≤ length o → e ≡ 1
  -- a shorter slice gets exactly its beginning, and stays as it was after it
  pub path_begins : (s : ℕ) (p : Point) {v v' x x' w w' o o' : List ℕ} {j k e : ℕ} → Path m s p v v' x x' j 1 0 → Path m s p w w' o o' k e 0
      → (take k o' ≡ take (length o) (take j x')) × (drop k o' ≡ drop k o)
  -- each corner is wrapped at most once, by its owner, in the cells that a build leaves
  pub wrapping : (g : Given) → Fits g → {old new : Slices} → Build m g old new 0 → Wraps m g.bounds old new
  -- a site in no triangle has an empty walk
  pub no_walk : (s : ℕ) {w w' o o' : List ℕ} {k e : ℕ} → (Used m.triangles s → ⊥) → Walk m s w w' o o' k e 0 → (k ≡ 0) × (e ≡ 1)
  -- no neighbours
  pub no_neighbours : (s : ℕ) {w w' o o' : List ℕ} {k e : ℕ} → (Used m.triangles s → ⊥) → Neighbours m s w w' o o' k e 0 → (k ≡ 0) × (e ≡ 1)
  -- a path of itself alone
  pub own_path : (s : ℕ) (p : Point) {w w' o o' : List ℕ} {k e : ℕ} → (Used m.triangles s → ⊥) → 0 < length o
      → Path m s p w w' o o' k e 0 → (take k o' ≡ s ∷ []) × (e ≡ 1)
  -- an empty cell
  pub no_cell : (g : Given) → Fits g → (s : ℕ) {old new : Slices} {part : List ℕ} {r : ℕ} → Build m g old new 0 → s < site_count m.sites → (Used m.triangles s → ⊥)
      → CellPart (take (suc (site_count m.sites)) new.offsets) new.indexes s part r → part ≡ []

-- ---- proved, of every lent mesh

pub demand1 : (m : Mesh) → Demand1 m
demand1 m = record {
  version = one_version;
  root_bits = λ b r s x y. one_root_bits b r s x.0 y.0 x.1 y.1;
  root = one_root;
  magnitude_bits = one_magnitude_bits;
  magnitude = one_magnitude;
  signum_bits = one_signum_bits;
  signum = one_signum;
  abs_diff_eq = one_near;
  dist2 = λ a b _ _ _ _. one_dist2 a b;
  circumcenter = λ a b c _ _ _ _ _ _. one_circumcenter a b c;
  centroid = λ l _ _ _ _ _ _. one_centroid l;
  box = λ g _ _ _ _ _ _ _ _ _ _ _ _ _ _. one_box g;
  box_center = λ g _ _ _ _ _ _ _ _ _ _. one_box_center g;
  corners = λ g l _ _ _ _. one_corners;
  is_inside = λ g p _ _ _ _. one_inside g p;
  is_exclusively_inside = λ g p _ _ _ _. one_exclusively g p;
  which_edge = λ g p _ _ _ _. one_side g p;
  intersect_line = λ g p q _ _ _ _ _ _ _ _ _ _ _ _. one_meeting line_of g p q;
  project_ray = λ g p dir _ _ _ _ _ _ _ _ _ _ _ _. one_meeting ray_of g p dir;
  check = λ w r s new other. one_check m w new other r s;
  walk = λ s w o _ _ _ _ _ _ _ _ _ _. one_walk m s;
  neighbours = λ s w o _ _ _ _ _ _ _ _ _ _. one_neighbours m s;
  clipped_neighbours = λ off ix s w o _ _ _ _ _ _ _ _ _ _. one_clipped m off ix s;
  path = λ s p w o _ _ _ _ _ _ _ _ _ _. one_path m s p;
  shared_edge = λ a b w _ _ _ _ _ _. one_shared_edge;
  cells_share_edge = λ off ix a b _ _ _ _. one_cells_share_edge;
  build = λ g old _ _ _ _. one_build m g;
  cut = λ g old _ _ _ _ _ _. one_cut;
  why = λ g asked first second old _ _ _ _. one_why g asked first second;
  cell = λ off ix s _ _ _ _ _ _. one_cell off ix s;
  cell_part = λ off ix s _ _ _ _. one_cell_part off ix s;
  cell_wkb_bits = λ v off ix s out _ _ _ _ _ _. one_cell_wkb_bits off ix s out v;
  cell_wkb = λ v off ix s out _ _ _ _ _ _. one_cell_wkb off ix s out v;
  all_wkb = λ v off ix st out _ _ _ _ _ _ _ _. one_all_wkb v off ix st out;
  mend = λ old _ _ _ _ _ _ _ _ _ _. one_mend m;
  reader_begin = λ ws _ _ _ _. one_reader_begin ws;
  reader_feed = λ ws l s _ _ _ _ _ _. one_reader_feed ws l s;
  reader_end = λ ws _ _ _ _. one_reader_end ws;
  read_form_lem = λ l s _ _ _ _. one_read_form l s;
  read_multipoint = λ s old _ _ _ _ _ _. one_read_multipoint s old;
  write_multipoint = λ sites old _ _ _ _ _ _. one_write_multipoint sites old;
  grid_check = λ g w _ _ _ _ _ _ _ _. one_grid_check g;
  grid_nearest = λ g w _ _ _ _ _ _ _ _ _ _. one_grid_nearest g;
  grid_sites_lem = λ grid old _ _ _ _. one_grid_sites grid;
  flip = λ sites hull a old _ _ _ _. one_flip sites hull a;
  areas = λ v off ix old _ _ _ _. one_areas v off ix old;
  all_neighbours_lem = λ off ix w st o _ _ _ _ _ _ _ _. one_all_neighbours m off ix;
  ends = λ s points w o _ _ _ _ _ _. one_ends m s points;
  audit = λ g sites v off ix starts others bits _ _ _ _ _ _ _ _ _ _ _ _. one_audit g sites v off ix starts others bits;
  certify = λ g sites v off ix bits w _ _ _ _ _ _ _ _ _ _ _ _. one_certify g sites v off ix bits w;
  check_refused = λ a. work_refused m a.work;
  walk_refused = λ s. list_refused;
  neighbours_refused = λ s. list_refused;
  clipped_refused = λ off ix s. list_refused;
  path_refused = λ s p. list_refused;
  shared_edge_refused = λ a b x. work_refused m x.work;
  all_neighbours_refused = all_refused m;
  ends_refused = ends_refused m;
  all_wkb_refused = λ v off ix. images_refused;
  build_refused = λ g. slices_refused;
  cut_refused = λ g. cut_refused;
  flip_refused = lists_refused;
  others_refused = after_refusal m;
  first_rule = first_broken m;
}

pub demand2 : (m : Mesh) → Demand2 m
demand2 m = record {
  check_answers = check_answers m _;
  walk_answers = λ s a. site_answers m _ s a.number;
  neighbours_answers = λ s a. site_answers m _ s a.number;
  clipped_answers = λ off ix s a. cells_answers m _ off ix s a.number;
  path_answers = λ s p a. path_answers m _ s p a.number;
  all_neighbours_answers = λ off ix {w} {w'} {st} {st'} {o} a. all_answers m w off ix st o a.number;
  ends_answers = λ s points {w} {w'} {o} a. ends_answers m w s points o a.number;
  shared_edge_answers = λ a b x. edge_answers m _ x.number;
  by_size_lem = size_fits;
  by_edges_lem = edges_fit;
  build_answers = λ g. build_answers m g;
  build_leaves = λ g f. build_leaves m g f;
  walk = λ s. written;
  neighbours = λ s. written;
  clipped_neighbours = λ off ix s. written;
  path = λ s p. written;
  dist2 = dist2_answer;
  circumcenter = circumcenter_answer;
  centroid = centroid_answer_lem;
  box = box_answer;
  box_center = center_answer_lem;
  corners = λ g. corners_answer;
  intersect_line = line_answer_lem;
  project_ray = ray_answer_lem;
  within = bounds;
}

pub demand3 : (m : Mesh) → Demand3 m
demand3 m = record {
  walk = walk_rounds m;
  walk_ends = walk_ends m;
  walk_begins = λ s a b. (begins a b, rest b);
  neighbours = neighbours_joined m;
  path = λ s p. path_approaches m s p;
  path_once = λ s p. path_once m s p;
  path_short = λ s p. path_short m s p;
  path_ends = λ s p. path_ended m s p;
  path_begins = λ s p a b. (begins a b, rest b);
  wrapping = build_wraps m;
  no_walk = no_walk m;
  no_neighbours = no_neighbours m;
  own_path = λ s p. own_path m s p;
  no_cell = λ g f s. build_empty m g f s;
}

-- ---- Beyond them: what the calls are for.

-- where voronoi_grid_nearest says yes, paths and ends of paths end at nearest gauges and the owners of admitted corners are nearest (Nearest)
pub on_the_grid : (g : GridMesh) {w w' : List ℕ} {place unused : ℕ} → GridNearest g w w' 0 0 place unused → {old sites : List Float} → SitesOfGrid g.grid old sites 0
    → NearestGauges g sites unused
on_the_grid g answer = nearest_gauges g answer

-- the reason that voronoi_why tells is the true one (TrueReason)
pub why_tells : (m : Mesh) (g : Given) (asked first second : ℕ) {old new : Slices} {t : ReasonNumbers} → Why m g asked first second old new t
    → TrueReason m g (question_of asked first second) old t
why_tells = true_reason

-- each area of voronoi_areas has the sign of the exact one (SignedAreas)
pub areas_signed : (v : List Float) (off ix : List ℕ) {old new : List Float} → Areas v off ix old new 0 → (s : ℕ) → s < length off - 1
    → SignTrue (gains_of (map (point_at v) (cell_of off ix s))) (losses_of (map (point_at v) (cell_of off ix s))) (get_or new s nan)
areas_signed = signed_areas
