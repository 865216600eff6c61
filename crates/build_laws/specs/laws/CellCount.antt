-- The counts of a build that is not refused: one cell for each site, since a try sets the cell of its site and changes no other; four owners; the lost corners are
-- those that stand in no cell.
use Rattle.std.specs.Prelude.{◌≡◌, refl, List, [], ◌++◌, length, get_or, replicate}
use Rattle.std.proofs.Common.{ap, ◌∙◌}
use Prim.Native.Nat.{ℕ, zero, suc, ◌/◌}
use Rattle.std.proofs.Math.ListN.{length-set}
use Rattle.std.proofs.lemmas.List.{length-replicate}
use Rattle.base.specs.common.Pick.{pick}
use Rattle.plane.specs.boxes.Box.{corners_of}
use Rattle.plane.specs.declared.boxes.BoundingBox.{BoundingBox}
use Rattle.mesh.specs.Mesh.{end_of, leftmost_of}
use Rattle.mesh.specs.Accepted.{Mesh, table_of, site_count}
use Rattle.definition.specs.Fault.{ok}
use Rattle.definition.specs.Cell.{clip_cell}
use Rattle.definition.specs.Build.{lost_from, centers_from, Extensions, extend_from, CellState, clip_into, clip_hull, clip_rest, clip_all, hull_ring, ring_from, is_empty, owners_from, Built, build}
use Rattle.definition.specs.Short.{extensions, cell_state}
use Rattle.definition.specs.laws.Gives.{Gives, gives_next, gives_then, picked}
use Rattle.build_laws.specs.laws.Owners.{owners_length}

module _ (n : ℕ) where
  abbrev Many : CellState → Type 0
  Many s = length s.cells ≡ n

  module _ (b : BoundingBox) (nc : ℕ) where
    into : (site : ℕ) (r : List ℕ) (s : CellState) → Many s → Gives Many (clip_into b nc site r s)
    unfolding clip_into
    into site r s h = gives_next Many (clip_cell b nc site r s.verts s.owners) _ (λ c. length-set s.cells site c.new ∙ h)

    on_hull_lem : (he hull left xs : List ℕ) (i k : ℕ) (s : CellState) → Many s → Gives Many (clip_hull b nc he hull left xs i k s)
    unfolding clip_hull
    on_hull_lem he hull left xs i zero s h = h
    on_hull_lem he hull left xs i (suc k) s h =
        gives_then Many Many (clip_into b nc (get_or hull i 0) (hull_ring he hull left xs i) s) _ (into _ _ s h) (λ r g. on_hull_lem he hull left xs (suc i) k r g)

    on_rest_lem : (tri he : List ℕ) (e k : ℕ) (s : CellState) → Many s → Gives Many (clip_rest b nc tri he e k s)
    unfolding clip_rest
    on_rest_lem tri he e zero s h = h
    on_rest_lem tri he e (suc k) s h =
        gives_then Many Many (pick (is_empty (get_or s.cells (end_of tri e) [])) (λ _. clip_into b nc (end_of tri e) (ring_from he e) s) (λ _. ok s)) _
        (picked (Gives Many) (is_empty (get_or s.cells (end_of tri e) [])) _ _ (λ t. into _ _ s h) (λ t. h))
        (λ r g. on_rest_lem tri he (suc e) k r g)

    on_all : (tri he hull left owners : List ℕ) (x : Extensions) → Gives Many (clip_all b nc tri he hull left n owners x)
    unfolding clip_all
    on_all tri he hull left owners x =
        gives_then Many Many (clip_hull b nc he hull left x.at 0 (length hull) (cell_state x.verts owners (replicate n []) x.steps)) _
        (on_hull_lem he hull left x.at 0 (length hull) _ (length-replicate n [])) (λ s g. on_rest_lem tri he 0 (length tri) s g)

pub cell_count : (m : Mesh) (b : BoundingBox) → Gives (λ (r : Built). length r.cells ≡ site_count m.sites) (build m b)
unfolding build
cell_count m b =
    let n = site_count m.sites in
    let nc = length m.triangles / 3 in
    let left = leftmost_of m.triangles m.halfedges n in
    gives_next _ (centers_from m.sites m.triangles 0 nc []) _ λ c.
    gives_next _ (extend_from m.sites m.triangles m.hull left nc 0 (length m.hull) (extensions (c ++ corners_of b) [] [])) _ λ x.
    gives_then (Many n) _ (clip_all b nc m.triangles m.halfedges m.hull left n _ x) _ (on_all n b nc m.triangles m.halfedges m.hull left _ x) (λ s g. g)

-- the owners are those that the paths to the corners find, and the lost corners are tallied over all entries
pub record CellsTallied (m : Mesh) (b : BoundingBox) (r : Built) : Type 0 where
  pub found : r.owners ≡ owners_from m.sites m.triangles m.halfedges (table_of m) (site_count m.sites) (get_or m.hull 0 0) (corners_of b)
  pub lost : r.lost ≡ lost_from (length m.triangles / 3) 4 r.cells

pub tallied : (m : Mesh) (b : BoundingBox) → Gives (CellsTallied m b) (build m b)
unfolding build
tallied m b =
    let n = site_count m.sites in
    let nc = length m.triangles / 3 in
    let left = leftmost_of m.triangles m.halfedges n in
    gives_next _ (centers_from m.sites m.triangles 0 nc []) _ λ c.
    gives_next _ (extend_from m.sites m.triangles m.hull left nc 0 (length m.hull) (extensions (c ++ corners_of b) [] [])) _ λ x.
    gives_next _ (clip_all b nc m.triangles m.halfedges m.hull left n _ x) _ (λ s. record { found = refl; lost = refl })

pub four_owners : (m : Mesh) (b : BoundingBox) {r : Built} → CellsTallied m b r → length r.owners ≡ 4
unfolding corners_of
four_owners m b t = ap length t.found ∙ owners_length m.sites m.triangles m.halfedges (table_of m) (site_count m.sites) (get_or m.hull 0 0) (corners_of b)
