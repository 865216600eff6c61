-- The clipped build (the Rust's CellBuilder with ClipBehavior::Clip) on an accepted mesh: vertices, marked cells, corner owners, lost corners, or the first refusal of 11 to 14.
-- sites are numbers x and y in turn, tri and he the triangles and half-edges, hull the hull's sites, table the leftmost table.
use Rattle.std.specs.Prelude.{ℕ, zero, suc, ◌+◌, ◌-◌, ◌*◌, ◌/◌, Bool, true, false, ◌&&◌, List, [], ◌∷◌, ◌++◌, map, length, get_or, set, replicate, eqb, Float}
use Rattle.std.specs.Float.{nan, inf, fin, binary64}
use Rattle.std.specs.Float.Ieee.{of_bits}
use Rattle.base.specs.common.Pick.{pick}
use Rattle.base.specs.common.Binary64.{◌⊞◌, ◌⊟◌, ◌⊠◌, ◌⊘◌, one}
use Rattle.base.specs.common.Count.{occ}
use Rattle.base.specs.numbers.Numbers.{refused_circumcenter, refused_extension}
use Rattle.root.specs.Sqrt.{sqrt_of}
use Rattle.plane.specs.points.Plane.{at}
use Rattle.plane.specs.points.Flat.{point_at}
use Rattle.plane.specs.declared.points.Point.{Point}
use Rattle.plane.specs.centers.Circumcenter.{center_of, ok_center}
use Rattle.plane.specs.boxes.Box.{corners_of}
use Rattle.plane.specs.declared.boxes.BoundingBox.{BoundingBox}
use Rattle.vertices.specs.Add.{add_vertex}
use Rattle.mesh.specs.Mesh.{start_of, end_of, leftmost_of, whole_of}
use Rattle.mesh.specs.Accepted.{Mesh, site_count}
use Rattle.mesh.specs.Hull.{next_site}
use Rattle.walks.specs.paths.Path.{path_end}
use Rattle.definition.specs.declared.Fault.{Fault}
use Rattle.definition.specs.Fault.{Outcome, ok, refused, and_then}
use Rattle.definition.specs.Cell.{Mark, plain, crossing, wrapped, Entry, unmarked, Taken, took, extension, vertex_at, clip_cell}

-- ---- vertices and owners to begin with

unfoldable pub center_at : List Float → List ℕ → ℕ → Point
center_at sites tri t =
    center_of (point_at sites (get_or tri (3 * t) 0)) (point_at sites (get_or tri (3 * t + 1) 0)) (point_at sites (get_or tri (3 * t + 2) 0))

-- the circumcenters of k triangles from t on, after vs; 11 at the first that breaks its rule
unfoldable pub centers_from : List Float → List ℕ → ℕ → ℕ → List Point → Outcome Fault (List Point)
centers_from sites tri t zero vs = ok vs
centers_from sites tri t (suc k) vs =
    let c = center_at sites tri t in
    pick (ok_center c) (λ _. centers_from sites tri (suc t) k (vs ++ c ∷ [])) (λ _. refused (record { number = refused_circumcenter; place = t; from = 0; to = 0 }))

-- calculate_corner_ownership: a corner's owner is where the path to it ends, begun at the owner before; n is the number of sites, more than any path's hops
unfoldable pub owners_from : List Float → List ℕ → List ℕ → List ℕ → ℕ → ℕ → List Point → List ℕ
owners_from sites tri he table n s [] = []
owners_from sites tri he table n s (corner ∷ corners) =
    let o = path_end sites tri he table corner n s in
    o ∷ owners_from sites tri he table n o corners

-- ---- hull extensions

abbrev pub finite : Float → Bool
finite nan = false
finite (inf s) = false
finite (fin s m e) = true

-- VORONOI_INFINITY: 1e10
abbrev pub infinity : Float
infinity = of_bits binary64 0x4202_a05f_2000_0000

-- extend_voronoi_vertex: from the circumcenter of the hull edge e, orthogonal to it
unfoldable pub extended : List Float → List ℕ → List Point → ℕ → Point
extended sites tri vs e =
    let c = vertex_at vs (e / 3) in
    let a = point_at sites (start_of tri e) in
    let b = point_at sites (end_of tri e) in
    let x = a.y ⊟ b.y in
    let y = b.x ⊟ a.x in
    let k = one ⊘ sqrt_of (x ⊠ x ⊞ y ⊠ y) in
    at (c.x ⊞ x ⊠ k ⊠ infinity) (c.y ⊞ y ⊠ k ⊠ infinity)

-- the vertices, and the extension over the edge from each hull place to the next
pub record Extensions : Type 0 where
  pub verts : List Point
  pub at : List ℕ
  pub steps : List Taken

-- k hull places from i on; 12 at the first extension that is not finite
unfoldable pub extend_from : List Float → List ℕ → List ℕ → List ℕ → ℕ → ℕ → ℕ → Extensions → Outcome Fault Extensions
extend_from sites tri hull table nc i zero x = ok x
extend_from sites tri hull table nc i (suc k) x =
    let p = extended sites tri x.verts (get_or table (next_site hull i) 0) in
    let r = add_vertex nc x.verts p in
    pick (finite p.x && finite p.y)
    (λ _. extend_from sites tri hull table nc (suc i) k (record { verts = r.verts; at = x.at ++ r.at ∷ []; steps = x.steps ++ took extension r ∷ [] }))
    (λ _. refused (record { number = refused_extension; place = i; from = 0; to = 0 }))

-- ---- all cells

-- the circumcenters round a site, along the walk from e
abbrev pub ring_from : List ℕ → ℕ → List ℕ
ring_from he e = map (λ f. f / 3) (whole_of he e)

-- of the site at hull place i: between the extensions before and after it; the first one's ring is turned by one, since its extension after comes first
unfoldable pub hull_ring : List ℕ → List ℕ → List ℕ → List ℕ → ℕ → List ℕ
hull_ring he hull table xs i =
    let ring = ring_from he (get_or table (get_or hull i 0) 0) in
    pick (eqb i 0)
    (λ _. get_or xs 0 0 ∷ get_or xs (length hull - 1) 0 ∷ ring)
    (λ _. get_or xs (i - 1) 0 ∷ ring ++ get_or xs i 0 ∷ [])

pub record CellState : Type 0 where
  pub verts : List Point
  pub owners : List ℕ
  pub cells : List (List Entry)
  pub steps : List Taken

unfoldable pub clip_into : BoundingBox → ℕ → ℕ → List ℕ → CellState → Outcome Fault CellState
clip_into b nc site ring s =
    and_then (clip_cell b nc site ring s.verts s.owners) λ c.
    ok (record { verts = c.tip.verts; owners = c.tip.owners; cells = set s.cells site c.new; steps = s.steps ++ c.steps })

-- the sites at k hull places from i on
unfoldable pub clip_hull : BoundingBox → ℕ → List ℕ → List ℕ → List ℕ → List ℕ → ℕ → ℕ → CellState → Outcome Fault CellState
clip_hull b nc he hull table xs i zero s = ok s
clip_hull b nc he hull table xs i (suc k) s =
    and_then (clip_into b nc (get_or hull i 0) (hull_ring he hull table xs i) s) λ r.
    clip_hull b nc he hull table xs (suc i) k r

abbrev pub is_empty : List Entry → Bool
is_empty [] = true
is_empty (e ∷ es) = false

-- k half-edges from e on: the cell of the site where one ends is clipped from there if it is still empty
unfoldable pub clip_rest : BoundingBox → ℕ → List ℕ → List ℕ → ℕ → ℕ → CellState → Outcome Fault CellState
clip_rest b nc tri he e zero s = ok s
clip_rest b nc tri he e (suc k) s =
    let site = end_of tri e in
    and_then (pick (is_empty (get_or s.cells site [])) (λ _. clip_into b nc site (ring_from he e) s) (λ _. ok s)) λ r.
    clip_rest b nc tri he (suc e) k r

-- ---- wrapped corners, told by the marks

abbrev pub if_wrapped : Mark → ℕ → List ℕ
if_wrapped plain v = []
if_wrapped crossing v = []
if_wrapped wrapped v = v ∷ []

-- the vertices that a cell took by wrapping, and all cells together
unfoldable pub wrapped_in : List Entry → List ℕ
wrapped_in [] = []
wrapped_in (e ∷ es) = if_wrapped e.mark e.at ++ wrapped_in es

unfoldable pub all_wrapped : List (List Entry) → List ℕ
all_wrapped [] = []
all_wrapped (c ∷ cs) = wrapped_in c ++ all_wrapped cs

-- ---- lost corners, told by the entries

-- the entries of all cells together, of every mark
unfoldable pub all_entries : List (List Entry) → List ℕ
all_entries [] = []
all_entries (c ∷ cs) = unmarked c ++ all_entries cs

-- how many of the k corners from vertex v on stand in no cell
unfoldable pub lost_from : ℕ → ℕ → List (List Entry) → ℕ
lost_from v zero cells = 0
lost_from v (suc k) cells = pick (eqb (occ v (all_entries cells)) 0) (λ _. 1) (λ _. 0) + lost_from (suc v) k cells

-- ---- the build

pub record Built : Type 0 where
  pub verts : List Point
  pub cells : List (List Entry)
  pub owners : List ℕ
  pub lost : ℕ
  pub steps : List Taken

unfoldable pub clip_all : BoundingBox → ℕ → List ℕ → List ℕ → List ℕ → List ℕ → ℕ → List ℕ → Extensions → Outcome Fault CellState
clip_all b nc tri he hull table n owners x =
    and_then (clip_hull b nc he hull table x.at 0 (length hull) (record { verts = x.verts; owners = owners; cells = replicate n []; steps = x.steps })) λ s.
    clip_rest b nc tri he 0 (length tri) s

-- owners: as found, before wrapping
unfoldable pub build : Mesh → BoundingBox → Outcome Fault Built
build m b =
    let n = site_count m.sites in
    let nc = length m.triangles / 3 in
    let table = leftmost_of m.triangles m.halfedges n in
    let owners = owners_from m.sites m.triangles m.halfedges table n (get_or m.hull 0 0) (corners_of b) in
    and_then (centers_from m.sites m.triangles 0 nc []) λ centers.
    and_then (extend_from m.sites m.triangles m.hull table nc 0 (length m.hull) (record { verts = centers ++ corners_of b; at = []; steps = [] })) λ x.
    and_then (clip_all b nc m.triangles m.halfedges m.hull table n owners x) λ s.
    ok (record { verts = s.verts; cells = s.cells; owners = owners; lost = lost_from nc 4 s.cells; steps = s.steps })
