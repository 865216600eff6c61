-- The invariant of a build on its way: what the slices hold between two tries. The vertices stand at the beginning of the vertex slice, each cell in its site's region of the
-- index list, the extensions' numbers before the store's part; the definition's `CellsSoFar` says how much room that has taken.
use Rattle.std.specs.Prelude.{◌≡◌, List, [], map, ℕ, ◌+◌, ◌-◌, ◌*◌, ◌/◌, ◌≤◌, ◌<◌, Float, length, get_or, drop}
use Rattle.base.specs.common.Pick.{pick}
use Rattle.plane.specs.points.Flat.{points}
use Rattle.plane.specs.declared.boxes.BoundingBox.{BoundingBox}
use Rattle.vertices.specs.Store.{Holds}
use Rattle.mesh.specs.Mesh.{end_of, leftmost_of, Fan}
use Rattle.mesh.specs.Accepted.{OutlinedTopology}
use Rattle.cell_memory.specs.layout.Regions.{Regions}
use Rattle.cell_memory.specs.layout.Rooms.{Started}
use Rattle.definition.specs.declared.Fault.{Fault}
use Rattle.definition.specs.Fault.{Outcome, ok, refused}
use Rattle.definition.specs.Build.{ring_from, hull_ring, Extensions, CellState, clip_into, is_empty}
use Rattle.definition.specs.Measures.{share_of}
use Rattle.definition.specs.Reused.{reused_in}
use Rattle.definition.specs.Cell.{unmarked}
use Rattle.definition.specs.Short.{fault}
use Rattle.definition.specs.Sides.{SidedCorners}
use Rattle.build_laws.specs.laws.Start.{Beyond}
use Rattle.build_laws.specs.laws.CellsSoFar.{CellsSoFar}
use Rattle.cell_builder.specs.declared.tried.Frame.{Frame}
use Rattle.cell_builder.specs.declared.finish.Progress.{Progress}

-- what the code is handed and stays while the cells are clipped: the mesh's lists with its leftmost table, the frame with the box, the regions' starts
pub record Plan : Type 0 where
  pub triangles : List ℕ
  pub halfedges : List ℕ
  pub hull : List ℕ
  pub table : List ℕ
  pub frame : Frame
  pub offsets : List ℕ

abbrev pub plan : List ℕ → List ℕ → List ℕ → List ℕ → Frame → List ℕ → Plan
plan tri he hull table f off = record { triangles = tri; halfedges = he; hull = hull; table = table; frame = f; offsets = off }

-- what stays too and stands in no slice: the number of sites, the owners as found, the hull's extensions
pub record Ground : Type 0 where
  pub sites : ℕ
  pub found : List ℕ
  pub x : Extensions

abbrev pub ground : ℕ → List ℕ → Extensions → Ground
ground n found x = record { sites = n; found = found; x = x }

-- the frame in the index list: regions, then the stage of one ring, which has at most as many entries as there are triangles and two more, then the extensions' numbers
abbrev pub frame_of : BoundingBox → ℕ → ℕ → Frame
frame_of b entries hull = record { bounds = b; centers = entries / 3; stage = 3 * entries + 6 * hull + 4; limit = 3 * entries + entries / 3 + 7 * hull + 6 }

-- that it is so: a mesh that rules 7 to 9 accept with its table, the regions' starts, a box that rule 3 admits with its corners after the circumcenters,
-- and slices of so many numbers and indexes with the room that rule 2 asks for
pub record Grounded (w : Plan) (g : Ground) (numbers indexes : ℕ) : Type 0 where
  pub mesh : OutlinedTopology w.triangles w.halfedges w.hull g.sites
  pub table_is : w.table ≡ leftmost_of w.triangles w.halfedges g.sites
  pub few_sites : g.sites ≤ 65536
  pub few_entries : length w.triangles ≤ 393216
  pub three_on_hull : 3 ≤ length w.hull
  pub few_on_hull : length w.hull ≤ 65536
  pub centers : w.frame.centers ≡ length w.triangles / 3
  pub stage : w.frame.stage ≡ 3 * length w.triangles + 6 * length w.hull + 4
  pub limit : w.frame.limit ≡ 3 * length w.triangles + length w.triangles / 3 + 7 * length w.hull + 6
  pub places : g.sites < length w.offsets
  pub started : Started w.triangles w.hull g.found g.sites w.offsets
  pub four : length g.found ≡ 4
  pub owner_sites : (k : ℕ) → k < 4 → get_or g.found k 0 < g.sites
  pub counted : length g.x.at ≡ length w.hull
  pub taken : length g.x.steps ≡ length w.hull
  pub beyond : Beyond (length w.triangles / 3) g.x
  pub low : length w.triangles / 3 + 4 ≤ length g.x.verts
  pub high : length g.x.verts ≤ length w.triangles / 3 + 4 + length w.hull
  pub sides : SidedCorners w.frame.bounds (length w.triangles / 3) g.x.verts
  pub room_v : 2 * (7 * (length w.triangles / 3) + 5 * length w.hull + 4) ≤ numbers
  pub room_ix : w.frame.limit ≤ indexes

-- rule 10 on it
abbrev pub Fanned : Plan → Ground → Type 0
Fanned w g = Fan w.triangles w.halfedges (leftmost_of w.triangles w.halfedges g.sites)

-- the definition's cells s, held by the slices v and ix, with p beside them
pub record Amid (w : Plan) (g : Ground) (s : CellState) (p : Progress) (v : List Float) (ix : List ℕ) : Type 0 where
  pub on : Grounded w g (length v) (length ix)
  pub held : CellsSoFar w.frame.bounds (length w.triangles / 3) g.sites (share_of w.triangles w.hull) g.x.verts g.found g.x.steps s
  pub fine : p.fault ≡ fault 0 0 0 0
  pub verts : s.verts ≡ points p.count v
  pub owners : s.owners ≡ p.owners
  pub reused : reused_in s.steps ≡ p.reused
  pub holds : Holds w.frame.centers p.count v (drop w.frame.limit ix)
  pub regions : Regions ix w.offsets (map unmarked s.cells)
  pub numbers : (i : ℕ) → i < length w.hull → get_or ix (w.frame.limit - length w.hull + i) 0 ≡ get_or g.x.at i 0

-- the definition's outcome, as the code gives it; refused, the slices keep their lengths only
abbrev pub Does : Plan → Ground → Outcome Fault CellState → Progress → List Float → List ℕ → Type 0
Does w g (ok s) p v ix = Amid w g s p v ix
Does w g (refused e) p v ix = (p.fault ≡ e) × (0 < e.number)

-- where there is no fault, some cells that the slices hold
abbrev pub SomeHeld : Plan → Ground → Progress → List Float → List ℕ → Type 0
SomeHeld w g p v ix = p.fault.number ≡ 0 → (t : CellState) × Amid w g t p v ix

-- ---- the definition's tries, by a plan

abbrev pub hull_try : Plan → Ground → ℕ → CellState → Outcome Fault CellState
hull_try w g i s = clip_into w.frame.bounds (length w.triangles / 3) (get_or w.hull i 0) (hull_ring w.halfedges w.hull w.table g.x.at i) s

abbrev pub edge_try : Plan → ℕ → CellState → Outcome Fault CellState
edge_try w e s =
    let site = end_of w.triangles e in
    pick (is_empty (get_or s.cells site [])) (λ _. clip_into w.frame.bounds (length w.triangles / 3) site (ring_from w.halfedges e) s) (λ _. ok s)

-- ---- what the functions need: some cells that the slices hold

-- at hull place i: its site's cell is empty
pub record HullAmid (w : Plan) (p : Progress) (v : List Float) (ix : List ℕ) (i : ℕ) : Type 0 where
  pub g : Ground
  pub s : CellState
  pub amid : Amid w g s p v ix
  pub place : i < length w.hull
  pub blank : get_or s.cells (get_or w.hull i 0) [] ≡ []

pub record EdgesAmid (w : Plan) (p : Progress) (v : List Float) (ix : List ℕ) : Type 0 where
  pub g : Ground
  pub s : CellState
  pub amid : Amid w g s p v ix

-- ---- what the functions give, of whatever cells the slices v and ix held: the definition's outcome in r, v₁ and ix₁

-- at hull place i
abbrev pub HullTried : Plan → Progress → List Float → List ℕ → ℕ → Progress → List Float → List ℕ → Type 0
HullTried w p v ix i r v₁ ix₁ =
    (g : Ground) (s : CellState) → get_or s.cells (get_or w.hull i 0) [] ≡ [] → Amid w g s p v ix → Does w g (hull_try w g i s) r v₁ ix₁

-- whatever they were
abbrev pub AtRest : Plan → Progress → List Float → List ℕ → (Ground → CellState → Type 0) → Type 0
AtRest w p v ix P = (g : Ground) (s : CellState) → Amid w g s p v ix → P g s

-- at half-edge e
abbrev pub EdgeTried : Plan → Progress → List Float → List ℕ → ℕ → Progress → List Float → List ℕ → Type 0
EdgeTried w p v ix e r v₁ ix₁ = AtRest w p v ix (λ g s. Does w g (edge_try w e s) r v₁ ix₁)
