-- The tries of a build: the cell of a site is clipped from a ring at each hull place in turn, then at each half-edge, rising, that ends at a site whose cell is still empty.
-- A try is asked for where all steps before it went through; a state s is what there is by then.
use Rattle.std.specs.Prelude.{◌≡◌, true, ◌&&◌, List, [], ◌∷◌, ◌++◌, ℕ, zero, suc, ◌/◌, ◌<◌, length, get_or, replicate, Float}
use Rattle.base.specs.common.Refusals.{Rule, each, Keeps}
use Rattle.plane.specs.declared.points.Point.{Point}
use Rattle.plane.specs.centers.Circumcenter.{ok_center}
use Rattle.plane.specs.boxes.Box.{corners_of}
use Rattle.plane.specs.declared.boxes.BoundingBox.{BoundingBox}
use Rattle.mesh.specs.Mesh.{end_of, leftmost_of}
use Rattle.mesh.specs.Accepted.{Mesh, table_of, site_count}
use Rattle.mesh.specs.Hull.{next_site}
use Rattle.base.specs.numbers.Numbers.{refused_circumcenter, refused_extension}
use Rattle.definition.specs.declared.Fault.{Fault}
use Rattle.definition.specs.Fault.{ok}
use Rattle.definition.specs.Cell.{RingPart, clip_cell}
use Rattle.definition.specs.Build.{center_at, owners_from, finite, extended, Extensions, extend_from, ring_from, hull_ring, CellState, clip_hull, clip_rest}
use Rattle.definition.specs.Short.{fault, extensions, cell_state}

-- ---- before the cells: rules 11 and 12

-- 11: each circumcenter
abbrev pub center_rule : List Float → List ℕ → Rule Fault
center_rule sites tri = each (λ t. fault refused_circumcenter t 0 0) (length tri / 3) (λ t. ok_center (center_at sites tri t) ≡ true)

-- the circumcenters of the first k triangles
unfoldable pub centers_to : List Float → List ℕ → ℕ → List Point
centers_to sites tri zero = []
centers_to sites tri (suc k) = centers_to sites tri k ++ center_at sites tri k ∷ []

-- the extension over the hull edge from place i to the next
abbrev pub extension_at : Mesh → ℕ → Point
extension_at m i = extended m.sites m.triangles (centers_to m.sites m.triangles (length m.triangles / 3)) (get_or (table_of m) (next_site m.hull i) 0)

-- 12: each extension is finite
abbrev pub extension_rule : Mesh → Rule Fault
extension_rule m = each (λ i. fault refused_extension i 0 0) (length m.hull) (λ i. (finite (extension_at m i).x && finite (extension_at m i).y) ≡ true)

-- ---- the cells

module _ (m : Mesh) (b : BoundingBox) where
  -- the extensions over the first k hull edges are x
  abbrev pub ExtendedTo : ℕ → Extensions → Type 0
  ExtendedTo k x =
      extend_from m.sites m.triangles m.hull (table_of m) (length m.triangles / 3) 0 k (extensions (centers_to m.sites m.triangles (length
      m.triangles / 3) ++ corners_of b) [] []) ≡ ok x

  -- before the first try: no cell has an entry, the owners are as found
  abbrev pub no_cells : Extensions → CellState
  no_cells x =
      let n = site_count m.sites in
      cell_state x.verts (owners_from m.sites m.triangles m.halfedges (leftmost_of m.triangles m.halfedges n) n (get_or m.hull 0 0) (corners_of b)) (replicate n []) x.steps

  -- after the tries at the first k hull places
  abbrev pub HullTo : Extensions → ℕ → CellState → Type 0
  HullTo x k s = clip_hull b (length m.triangles / 3) m.halfedges m.hull (table_of m) x.at 0 k (no_cells x) ≡ ok s

  -- after the turns of the first k half-edges, from the state h that the tries at the hull left
  abbrev pub RestTo : CellState → ℕ → CellState → Type 0
  RestTo h k s = clip_rest b (length m.triangles / 3) m.triangles m.halfedges 0 k h ≡ ok s

-- all circumcenters keep rule 11, all extensions rule 12, and x are these
pub record AllExtended (m : Mesh) (b : BoundingBox) (x : Extensions) : Type 0 where
  pub centers : Keeps (center_rule m.sites m.triangles)
  pub reached : ExtendedTo m b (length m.hull) x

-- the builder tries the cell of a site from a ring: at hull place i, or at half-edge e
pub data TryOf (m : Mesh) (b : BoundingBox) (site : ℕ) (ring : List ℕ) (s : CellState) : Type 0 where
  at_place : (x : Extensions) → AllExtended m b x → (i : ℕ) → i < length m.hull → HullTo m b x i s
      → site ≡ get_or m.hull i 0 → ring ≡ hull_ring m.halfedges m.hull (table_of m) x.at i → TryOf m b site ring s
  at_halfedge : (x : Extensions) → AllExtended m b x → (h : CellState) → HullTo m b x (length m.hull) h → (e : ℕ) → e < length m.triangles
      → RestTo m b h e s → get_or s.cells site [] ≡ [] → site ≡ end_of m.triangles e → ring ≡ ring_from m.halfedges e → TryOf m b site ring s

-- what a try gives: c.new is the cell
abbrev pub TryGives : List ℕ → BoundingBox → ℕ → List ℕ → CellState → RingPart → Type 0
TryGives tri b site ring s c = clip_cell b (length tri / 3) site ring s.verts s.owners ≡ ok c

-- there was a try of the site, and each gave nothing
pub record TriedInVain (m : Mesh) (b : BoundingBox) (site : ℕ) : Type 0 where
  pub some : (ring : List ℕ) × (s : CellState) × TryOf m b site ring s
  pub all : (ring : List ℕ) (s : CellState) → TryOf m b site ring s → (c : RingPart) × TryGives m.triangles b site ring s c × (c.new ≡ [])
