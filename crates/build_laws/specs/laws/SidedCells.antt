-- Every try of a build finds four owners, and after the circumcenters corners that lie on sides.
use Rattle.std.specs.Prelude.{◌≡◌, Bool, true, false, ◌≢◌, ℕ, ◌+◌, ◌/◌, ◌≤◌, ◌<◌, get_or}
use Rattle.std.proofs.Math.Path.{refl}
use Rattle.std.proofs.Common.{sym, ◌∙◌, arith}
use mathlib.Core.List.{List, [], ◌++◌}
use Rattle.std.proofs.Math.ListN.{length, length-append}
use Rattle.base.specs.common.Pick.{pick}
use Rattle.base.specs.numbers.Numbers.{EMPTY}
use Rattle.plane.specs.boxes.Box.{corners_of}
use Rattle.plane.specs.boxes.Finite.{BoundedBox}
use Rattle.plane.specs.declared.boxes.BoundingBox.{BoundingBox}
use Rattle.mesh.specs.Mesh.{end_of}
use Rattle.mesh.specs.Accepted.{Mesh, table_of, Accepted, site_count}
use Rattle.mesh.specs.laws.Facts.{topology, end_site}
use Rattle.definition.specs.Fault.{ok}
use Rattle.definition.specs.Build.{Extensions, ring_from, hull_ring, CellState, clip_into, clip_hull, is_empty, clip_rest}
use Rattle.definition.specs.Short.{extensions}
use Rattle.definition.specs.Sides.{SidedCorners}
use Rattle.definition.specs.laws.Gives.{gives_ok}
use Rattle.build_laws.specs.Tries.{centers_to, no_cells, AllExtended, TryOf, at_place, at_halfedge}
use Rattle.build_laws.specs.laws.BeforeCells.{centers_length}
use Rattle.build_laws.specs.laws.Owners.{owners_length}
use Rattle.build_laws.specs.laws.Ring.{RingClipped, clip_cell_lem}
use Rattle.build_laws.specs.laws.Runs.{ok_same, run, run_keeps}
use Rattle.build_laws.specs.laws.Sides.{corners_sided, corners_kept}
use Rattle.build_laws.specs.laws.Start.{Extended, extend_from_lem}
use Rattle.build_laws.specs.laws.TryRuns.{hull_step, hull_run, rest_step, rest_run, into_ok}

-- the state that a try finds
pub record SidedCells (b : BoundingBox) (nc : ℕ) (s : CellState) : Type 0 where
  pub long : nc + 4 ≤ length s.verts
  pub corners : SidedCorners b nc s.verts
  pub four : length s.owners ≡ 4

module _ (b : BoundingBox) (nc : ℕ) where
  into_sided : (site : ℕ) (ring : List ℕ) (s r : CellState) → site ≢ EMPTY → SidedCells b nc s → clip_into b nc site ring s ≡ ok r → SidedCells b nc r
  into_sided site ring s r real h e =
      let w = into_ok b nc site ring s e in
      let g = gives_ok (RingClipped b nc site s.verts s.owners (length ring)) (clip_cell_lem b nc site real s.verts h.long ring s.owners h.four) w.1 in
      rw w.2 (record {
        long = omega (arith, h.long, g.grown.longer);
        corners = corners_kept b nc s.verts w.0.tip.verts _ g.grown h.long h.corners;
        four = g.puts.owners ∙ h.four;
      })

  rest_sided : (tri he : List ℕ) (e : ℕ) (s r : CellState) → end_of tri e ≢ EMPTY → SidedCells b nc s → rest_step b nc tri he e s ≡ ok r → SidedCells b nc r
  rest_sided tri he e s r real h = by (is_empty (get_or s.cells (end_of tri e) []))
    where
      by : (t : Bool) → pick t (λ _. clip_into b nc (end_of tri e) (ring_from he e) s) (λ _. ok s) ≡ ok r → SidedCells b nc r
      by true g = into_sided (end_of tri e) (ring_from he e) s r real h g
      by false g = rw (← ok_same g) h

module _ {m : Mesh} (a : Accepted m) {b : BoundingBox} (box : BoundedBox 101 b) where
  abbrev nc : ℕ
  nc = length m.triangles / 3

  real_site : (o : ℕ) → o < site_count m.sites → o ≢ EMPTY
  real_site o l e = omega (arith, e, a.counts.few_sites)

  hull_real : (i : ℕ) → i < length m.hull → get_or m.hull i 0 ≢ EMPTY
  hull_real i l = real_site _ ((topology a).border.fresh i l).0

  end_real : (e : ℕ) → e < length m.triangles → end_of m.triangles e ≢ EMPTY
  end_real e l = real_site _ (end_site (topology a) e (omega (arith, (topology a).same)))

  first_cells : (x : Extensions) → AllExtended m b x → SidedCells b nc (no_cells m b x)
  unfolding corners_of
  first_cells x g =
      let cs = centers_to m.sites m.triangles nc in
      let lc = centers_length m.sites m.triangles nc in
      let lv : length (cs ++ corners_of b) ≡ nc + 4 = length-append cs (corners_of b) ∙ omega (arith, lc) in
      let e = gives_ok (Extended nc (length m.hull) (extensions (cs ++ corners_of b) [] []))
      (extend_from_lem m.sites m.triangles m.hull (table_of m) nc 0 (length m.hull) (extensions (cs ++ corners_of b) [] []) (omega arith) (λ i l. absurd (omega arith))) g.reached in
      record {
        long = omega (arith, e.grown.longer);
        corners = corners_kept b nc (cs ++ corners_of b) x.verts _ e.grown (omega arith) (corners_sided b box nc cs lc);
        four = owners_length m.sites m.triangles m.halfedges (table_of m) (site_count m.sites) (get_or m.hull 0 0) (corners_of b);
      }

  hull_sided : (x : Extensions) → AllExtended m b x → (k : ℕ) → k ≤ length m.hull → {s : CellState}
      → clip_hull b nc m.halfedges m.hull (table_of m) x.at 0 k (no_cells m b x) ≡ ok s → SidedCells b nc s
  unfolding run
  hull_sided x g k l to =
      run_keeps (hull_step b nc m.halfedges m.hull (table_of m) x.at) (λ i t. SidedCells b nc t) 0 (no_cells m b x) refl (first_cells x g) k (omega arith)
      (λ i u v lo hi at e h. into_sided b nc (get_or m.hull i 0) (hull_ring m.halfedges m.hull (table_of m) x.at i) u v (hull_real i (omega arith)) h e)
      (sym (hull_run b nc m.halfedges m.hull (table_of m) x.at k (no_cells m b x)) ∙ to)

  rest_to_sided : (h : CellState) → SidedCells b nc h → (k : ℕ) → k ≤ length m.triangles → {s : CellState}
      → clip_rest b nc m.triangles m.halfedges 0 k h ≡ ok s → SidedCells b nc s
  unfolding run
  rest_to_sided h f k l to =
      run_keeps (rest_step b nc m.triangles m.halfedges) (λ i t. SidedCells b nc t) 0 h refl f k (omega arith)
      (λ i u v lo hi at e w. rest_sided b nc m.triangles m.halfedges i u v (end_real i (omega arith)) w e)
      (sym (rest_run b nc m.triangles m.halfedges k h) ∙ to)

  -- the site of a try is one, and it finds such a state
  pub try_sided : {site : ℕ} {ring : List ℕ} {s : CellState} → TryOf m b site ring s → (site ≢ EMPTY) × SidedCells b nc s
  try_sided (at_place x g i l to is from) = (rw is (hull_real i l), hull_sided x g i (omega arith) to)
  try_sided (at_halfedge x g h all e l to empty is from) =
      (rw is (end_real e l), rest_to_sided h (hull_sided x g (length m.hull) (omega arith) all) e (omega arith) to)
