-- The rest, half-edge by half-edge. An inner site, one whose table entry is paired, has its cell once that has come by, or is idle: no try gives it one.
-- A hull site without a cell is idle too: a try gives it one only where the edge that closes the ring crosses the box.
use Rattle.std.specs.Prelude.{◌≡◌, Bool, true, false, List, [], ◌⊎◌, ◌≢◌, ℕ, ◌+◌, ◌*◌, ◌/◌, ◌%◌, ◌≤◌, ◌<◌, leb, eqb, Float, length, get_or}
use Rattle.base.specs.common.Pick.{pick}
use Rattle.base.specs.numbers.Numbers.{EMPTY}
use Rattle.plane.specs.declared.points.Point.{Point}
use Rattle.plane.specs.declared.boxes.BoundingBox.{BoundingBox}
use Rattle.mesh.specs.Mesh.{end_of, pair_of, Paired}
use Rattle.definition.specs.Build.{CellState, is_empty}
use Rattle.definition.specs.laws.Gives.{Gives}
use Rattle.cell_builder.specs.turned.laws.IdleSites.{IdleSite, ClosesOutside}
use Rattle.cell_builder.specs.turned.Marks.{mark_of, WalkMarked}
use Rattle.cell_builder.specs.declared.finish.Progress.{Progress}
use Rattle.cell_builder.specs.tried.SlicesInvariant.{Plan, Ground, Does, SomeHeld, AtRest, edge_try}

-- whether half-edge e is to be tried: its site's table entry has not come by; or it has and is unpaired
unfoldable pub due_of : List ℕ → List ℕ → List ℕ → ℕ → Bool
due_of tri he table e =
    let t = get_or table (end_of tri e) 0 in
    pick (leb e t) (λ _. true) (λ _. eqb (pair_of he t) EMPTY)

-- the site where half-edge e ends stands in the table, and its entry is a half-edge
abbrev pub HasEntry : List ℕ → List ℕ → List ℕ → ℕ → Type 0
HasEntry tri he table e = (end_of tri e < length table) × (get_or table (end_of tri e) 0 < length he)

pub record AllHaveEntries (tri he table : List ℕ) : Type 0 where
  pub threes : length tri % 3 ≡ 0
  pub few : length tri ≤ 393216
  pub each : (e : ℕ) → e < length tri → HasEntry tri he table e

-- half-edge e is passed by: it is not due, or not marked
abbrev pub PassedBy : List ℕ → List ℕ → List ℕ → List ℕ → ℕ → Type 0
PassedBy tri he table m e = (due_of tri he table e ≡ false) ⊎ (mark_of m e ≡ 0)

-- from `from` on all are passed by before r, and r is due and marked, or ends the list
pub record NextDue (tri he table m : List ℕ) (from r : ℕ) : Type 0 where
  pub low : from ≤ r
  pub high : r ≤ length tri
  pub passed : (e : ℕ) → from ≤ e → e < r → PassedBy tri he table m e
  pub due : r < length tri → (due_of tri he table r ≡ true) × (mark_of m r ≢ 0)

-- a hull site with a half-edge that is not marked has its cell
abbrev pub HullsMarked : Plan → List ℕ → CellState → Type 0
HullsMarked w m s = (h : ℕ) → h < length w.triangles → pair_of w.halfedges (get_or w.table (end_of w.triangles h) 0) ≡ EMPTY → mark_of m h ≡ 0
    → is_empty (get_or s.cells (end_of w.triangles h) []) ≡ false

-- a site has its cell, or is idle
abbrev pub FullOrIdle : Plan → Ground → CellState → ℕ → Type 0
FullOrIdle w g s k =
    (is_empty (get_or s.cells k []) ≡ false) ⊎ IdleSite w.frame.bounds (length w.triangles / 3) w.triangles w.halfedges g.x.verts k

-- so it is with each hull site, where half-edge h ends
abbrev pub HullsIdle : Plan → Ground → CellState → Type 0
HullsIdle w g s = (h : ℕ) → h < length w.triangles → pair_of w.halfedges (get_or w.table (end_of w.triangles h) 0) ≡ EMPTY → FullOrIdle w g s (end_of w.triangles h)

-- both
pub record HullsKnown (w : Plan) (g : Ground) (m : List ℕ) (s : CellState) : Type 0 where
  pub marked : HullsMarked w m s
  pub idle : HullsIdle w g s

-- what is settled before half-edge e
pub record SettledBefore (w : Plan) (g : Ground) (m : List ℕ) (e : ℕ) (s : CellState) : Type 0 where
  pub inner : (k : ℕ) → k < g.sites → pair_of w.halfedges (get_or w.table k 0) ≢ EMPTY → get_or w.table k 0 < e → FullOrIdle w g s k
  pub hulls : HullsKnown w g m s

-- after it, and after the definition's try there
abbrev pub SettledAfter : Plan → Ground → List ℕ → ℕ → CellState → Type 0
SettledAfter w g m e s = Gives (SettledBefore w g m (e + 1)) (edge_try w e s)

-- the region of each hull site begins in the index list
pub record HullRegions (hull ix off : List ℕ) : Type 0 where
  pub starts : (i : ℕ) → i < length hull → get_or hull i 0 < length off
  pub places : (i : ℕ) → i < length hull → get_or off (get_or hull i 0) 0 < length ix
  pub few : length hull ≤ 65536

-- and its first entry is that of a cell
abbrev pub RegionFilled : List ℕ → List ℕ → List ℕ → ℕ → Type 0
RegionFilled hull ix off i = get_or ix (get_or off (get_or hull i 0) 0) 0 ≢ EMPTY

-- or all half-edges that end at the site are marked
abbrev pub HullTold : List ℕ → List ℕ → List ℕ → List ℕ → List ℕ → List ℕ → ℕ → Type 0
HullTold he hull table ix off m i = RegionFilled hull ix off i ⊎ WalkMarked he m (get_or table (get_or hull i 0) 0)

-- what marking the hull needs: its regions, its sites in the table, and walks
pub record HullWalks (tri he hull table ix off : List ℕ) : Type 0 where
  pub regions : HullRegions hull ix off
  pub sites : (i : ℕ) → i < length hull → get_or hull i 0 < length table
  pub paired : Paired tri he
  pub few : length he ≤ 393216

-- ---- retries

-- a site is on the hull, and the first entry of its region is that of no cell
pub record HullBlank (he table ix off : List ℕ) (site : ℕ) : Type 0 where
  pub blank : get_or ix (get_or off site 0) 0 ≡ EMPTY
  pub on_hull_lem : pair_of he (get_or table site 0) ≡ EMPTY

-- so is the site where half-edge e ends, and the edge that closes the ring from there misses the box
pub record ClosedRetry (tri he table ix off : List ℕ) (b : BoundingBox) (vs : List Point) (e : ℕ) : Type 0 where
  pub site : HullBlank he table ix off (end_of tri e)
  pub outside : ClosesOutside b he vs e

-- what telling it needs
pub record Retries (tri he table ix off : List ℕ) (count numbers e : ℕ) : Type 0 where
  pub paired : Paired tri he
  pub threes : length tri % 3 ≡ 0
  pub same : length he ≡ length tri
  pub few : length tri ≤ 393216
  pub in_mesh : e < length tri
  pub entry : HasEntry tri he table e
  pub starts : end_of tri e < length off
  pub place : get_or off (end_of tri e) 0 < length ix
  pub centers : length tri / 3 ≤ count
  pub room : 2 * count ≤ numbers

-- some cells; the definition's try at half-edge e, where hull sites without a cell are idle
abbrev pub DueTried : Plan → Progress → List Float → List ℕ → ℕ → Progress → List Float → List ℕ → Type 0
DueTried w p v ix e r v₁ ix₁ = AtRest w p v ix (λ g s. SomeHeld w g r v₁ ix₁ × (HullsIdle w g s → Does w g (edge_try w e s) r v₁ ix₁))
