-- A build that is not refused has a cell for each site and an owner for each corner: cells are only ever set.
use Rattle.std.specs.Prelude.{◌≡◌, List, [], length, get_or}
use Rattle.std.proofs.Common.{◌∙◌}
use Prim.Native.Nat.{ℕ, zero, suc, ◌/◌}
use Rattle.std.proofs.Math.ListN.{length-set}
use Rattle.std.proofs.lemmas.List.{length-replicate}
use Rattle.plane.specs.boxes.Box.{corners_of}
use Rattle.plane.specs.declared.boxes.BoundingBox.{BoundingBox}
use Rattle.mesh.specs.Mesh.{leftmost_of, end_of}
use Rattle.mesh.specs.Accepted.{Mesh, site_count}
use Rattle.definition.specs.laws.Gives.{Gives, gives_then, gives_next, picked}
use Rattle.definition.specs.Build.{Built, CellState, Extensions, clip_into, is_empty, clip_hull, clip_rest, clip_all, build}
use Rattle.build_laws.specs.laws.Owners.{owners_length}

pub record Whole (n : ℕ) (b : Built) : Type 0 where
  pub cells : length b.cells ≡ n
  pub owners : length b.owners ≡ 4

abbrev Wide : ℕ → CellState → Type 0
Wide n s = length s.cells ≡ n

module _ (b : BoundingBox) (nc n : ℕ) where
  into : (site : ℕ) (ring : List ℕ) (s : CellState) → Wide n s → Gives (Wide n) (clip_into b nc site ring s)
  unfolding clip_into
  into site ring s h = gives_next (Wide n) _ _ (λ c. length-set s.cells site c.new ∙ h)

  on_hull_lem : (he hull left xs : List ℕ) (i k : ℕ) (s : CellState) → Wide n s → Gives (Wide n) (clip_hull b nc he hull left xs i k s)
  unfolding clip_hull
  on_hull_lem he hull left xs i zero s h = h
  on_hull_lem he hull left xs i (suc k) s h = gives_then (Wide n) (Wide n) _ _ (into _ _ s h) (λ r w. on_hull_lem he hull left xs (suc i) k r w)

  on_rest_lem : (tri he : List ℕ) (e k : ℕ) (s : CellState) → Wide n s → Gives (Wide n) (clip_rest b nc tri he e k s)
  unfolding clip_rest
  on_rest_lem tri he e zero s h = h
  on_rest_lem tri he e (suc k) s h =
      gives_then (Wide n) (Wide n) _ _
      (picked (Gives (Wide n)) (is_empty (get_or s.cells (end_of tri e) [])) _ _ (λ _. into _ _ s h) (λ _. h))
      (λ r w. on_rest_lem tri he (suc e) k r w)

  all_cells_lem : (tri he hull left owners : List ℕ) (x : Extensions) → Gives (Wide n) (clip_all b nc tri he hull left n owners x)
  unfolding clip_all
  all_cells_lem tri he hull left owners x =
      gives_then (Wide n) (Wide n) _ _ (on_hull_lem he hull left x.at 0 (length hull) _ (length-replicate n [])) (λ s w. on_rest_lem tri he 0 (length tri) s w)

pub whole_of_mesh : (m : Mesh) (b : BoundingBox) → Gives (Whole (site_count m.sites)) (build m b)
unfolding build corners_of
whole_of_mesh m b =
    let n = site_count m.sites in
    let left = leftmost_of m.triangles m.halfedges n in
    gives_next (Whole n) _ _ λ c.
    gives_next (Whole n) _ _ λ x.
    gives_then (Wide n) (Whole n) _ _ (all_cells_lem b (length m.triangles / 3) n m.triangles m.halfedges m.hull left _ x)
    (λ s w. record { cells = w; owners = owners_length m.sites m.triangles m.halfedges left n (get_or m.hull 0 0) (corners_of b) })
