-- The loops over hull places and half-edges as runs: what a build that went through did, and a try at which one is refused.
use Rattle.std.specs.Prelude.{◌≡◌, Bool, true, false, List, [], ◌++◌, length, get_or, set}
use Rattle.std.proofs.Math.Path.{refl, sym}
use Rattle.std.proofs.Common.{◌∙◌, arith}
use Prim.Native.Nat.{ℕ, zero, suc, ◌/◌, ◌≤◌}
use Rattle.base.specs.common.Pick.{pick}
use Rattle.plane.specs.declared.boxes.BoundingBox.{BoundingBox}
use Rattle.mesh.specs.Mesh.{end_of}
use Rattle.mesh.specs.Accepted.{Mesh, table_of, Accepted}
use Rattle.definition.specs.declared.Fault.{Fault}
use Rattle.definition.specs.Fault.{Outcome, ok, refused}
use Rattle.definition.specs.Cell.{RingPart, clip_cell}
use Rattle.definition.specs.Build.{Extensions, ring_from, hull_ring, CellState, clip_into, clip_hull, is_empty, clip_rest}
use Rattle.definition.specs.Short.{cell_state}
use Rattle.build_laws.specs.Tries.{no_cells, AllExtended, TryOf, at_place, at_halfedge}
use Rattle.build_laws.specs.laws.AllCells.{is_empty_lem}
use Rattle.build_laws.specs.laws.BeforeCells.{centers_length, extend_grown}
use Rattle.build_laws.specs.laws.RingFault.{clip_long}
use Rattle.build_laws.specs.laws.Runs.{ok_same, not_both, then_refused, then_same, went, Halted, halted_first, halted_later, halted, loop, run, loop_run, run_keeps}

-- ---- the loops

module _ (b : BoundingBox) (nc : ℕ) where
  abbrev pub hull_step : List ℕ → List ℕ → List ℕ → List ℕ → ℕ → CellState → Outcome Fault CellState
  hull_step he hull table xs i s = clip_into b nc (get_or hull i 0) (hull_ring he hull table xs i) s

  hull_loop : (he hull table xs : List ℕ) (k i : ℕ) (s : CellState) → clip_hull b nc he hull table xs i k s ≡ loop (hull_step he hull table xs) i k s
  unfolding clip_hull loop
  hull_loop he hull table xs zero i s = refl
  hull_loop he hull table xs (suc k) i s = then_same (clip_into b nc (get_or hull i 0) (hull_ring he hull table xs i) s) _ _ (λ r. hull_loop he hull table xs k (suc i) r)

  pub hull_run : (he hull table xs : List ℕ) (k : ℕ) (s : CellState) → clip_hull b nc he hull table xs 0 k s ≡ run (hull_step he hull table xs) k s
  hull_run he hull table xs k s = hull_loop he hull table xs k 0 s ∙ loop_run (hull_step he hull table xs) k s

  abbrev pub rest_step : List ℕ → List ℕ → ℕ → CellState → Outcome Fault CellState
  rest_step tri he e s = pick (is_empty (get_or s.cells (end_of tri e) [])) (λ _. clip_into b nc (end_of tri e) (ring_from he e) s) (λ _. ok s)

  rest_loop : (tri he : List ℕ) (k e : ℕ) (s : CellState) → clip_rest b nc tri he e k s ≡ loop (rest_step tri he) e k s
  unfolding clip_rest loop
  rest_loop tri he zero e s = refl
  rest_loop tri he (suc k) e s = then_same (rest_step tri he e s) _ _ (λ r. rest_loop tri he k (suc e) r)

  pub rest_run : (tri he : List ℕ) (k : ℕ) (s : CellState) → clip_rest b nc tri he 0 k s ≡ run (rest_step tri he) k s
  rest_run tri he k s = rest_loop tri he k 0 s ∙ loop_run (rest_step tri he) k s

  -- a turn that is refused is a try
  pub rest_refused : (tri he : List ℕ) (e : ℕ) (s : CellState) {f : Fault} → rest_step tri he e s ≡ refused f
      → (get_or s.cells (end_of tri e) [] ≡ []) × (clip_into b nc (end_of tri e) (ring_from he e) s ≡ refused f)
  rest_refused tri he e s {f} h = by (is_empty (get_or s.cells (end_of tri e) [])) refl h
    where
      by : (t : Bool) → is_empty (get_or s.cells (end_of tri e) []) ≡ t → pick t (λ _. clip_into b nc (end_of tri e) (ring_from he e) s) (λ _. ok s) ≡ refused f
          → (get_or s.cells (end_of tri e) [] ≡ []) × (clip_into b nc (end_of tri e) (ring_from he e) s ≡ refused f)
      by true q g = (is_empty_lem _ q, g)
      by false q g = absurd (not_both g)

  pub rest_tries : (tri he : List ℕ) (e : ℕ) (s : CellState) → get_or s.cells (end_of tri e) [] ≡ [] → rest_step tri he e s ≡ clip_into b nc (end_of tri e) (ring_from he e) s
  rest_tries tri he e s q = rw q refl

  -- a try puts its cell, or is refused with its ring
  pub into_refused : (site : ℕ) (ring : List ℕ) (s : CellState) {f : Fault} → clip_into b nc site ring s ≡ refused f → clip_cell b nc site ring s.verts s.owners ≡ refused f
  unfolding clip_into
  into_refused site ring s {f} h = by (halted (clip_cell b nc site ring s.verts s.owners) _ h)
    where
      by : {g : RingPart → CellState} → Halted (clip_cell b nc site ring s.verts s.owners) (λ c. ok (g c)) f → clip_cell b nc site ring s.verts s.owners ≡ refused f
      by (halted_first e) = e
      by (halted_later c e g) = absurd (not_both g)

  pub refused_into : (site : ℕ) (ring : List ℕ) (s : CellState) {f : Fault} → clip_cell b nc site ring s.verts s.owners ≡ refused f → clip_into b nc site ring s ≡ refused f
  unfolding clip_into
  refused_into site ring s h = then_refused _ h

  -- what a try that went through gave, and put
  pub into_ok : (site : ℕ) (ring : List ℕ) (s : CellState) {r : CellState} → clip_into b nc site ring s ≡ ok r
      → (c : RingPart) × (clip_cell b nc site ring s.verts s.owners ≡ ok c) × (r ≡ cell_state c.tip.verts c.tip.owners (set s.cells site c.new) (s.steps ++ c.steps))
  unfolding clip_into
  into_ok site ring s h = let w = went (clip_cell b nc site ring s.verts s.owners) _ h in (w.value, w.first, sym (ok_same w.then))

  -- the circumcenters stay
  abbrev Centers : CellState → Type 0
  Centers s = nc ≤ length s.verts

  into_long : (site : ℕ) (ring : List ℕ) (s r : CellState) → Centers s → clip_into b nc site ring s ≡ ok r → Centers r
  into_long site ring s r h e = let w = into_ok site ring s e in rw w.2 (clip_long b nc site ring s.verts s.owners h w.1)

  rest_long : (tri he : List ℕ) (e : ℕ) (s r : CellState) → Centers s → rest_step tri he e s ≡ ok r → Centers r
  rest_long tri he e s r h = by (is_empty (get_or s.cells (end_of tri e) []))
    where
      by : (t : Bool) → pick t (λ _. clip_into b nc (end_of tri e) (ring_from he e) s) (λ _. ok s) ≡ ok r → Centers r
      by true g = into_long (end_of tri e) (ring_from he e) s r h g
      by false g = rw (← ok_same g) h

  pub hull_long : (he hull table xs : List ℕ) (k : ℕ) (s : CellState) {r : CellState} → nc ≤ length s.verts → clip_hull b nc he hull table xs 0 k s ≡ ok r → nc ≤ length r.verts
  unfolding run
  hull_long he hull table xs k s h e =
      run_keeps (hull_step he hull table xs) (λ i t. Centers t) 0 s refl h k (omega arith)
      (λ i u v lo hi at g c. into_long (get_or hull i 0) (hull_ring he hull table xs i) u v c g) (sym (hull_run he hull table xs k s) ∙ e)

  pub rest_run_long : (tri he : List ℕ) (k : ℕ) (s : CellState) {r : CellState} → nc ≤ length s.verts → clip_rest b nc tri he 0 k s ≡ ok r → nc ≤ length r.verts
  unfolding run
  rest_run_long tri he k s h e =
      run_keeps (rest_step tri he) (λ i t. Centers t) 0 s refl h k (omega arith) (λ i u v lo hi at g c. rest_long tri he i u v c g) (sym (rest_run tri he k s) ∙ e)

-- at each try there are the circumcenters
pub tried_long : {m : Mesh} → Accepted m → (b : BoundingBox) {site : ℕ} {ring : List ℕ} {s : CellState}
    → TryOf m b site ring s → length m.triangles / 3 ≤ length s.verts
tried_long {m} a b t = by t
  where
    begun_long : {x : Extensions} → AllExtended m b x → length m.triangles / 3 ≤ length x.verts
    begun_long g = let w = extend_grown a b g.reached in omega (arith, w.1.longer, centers_length m.sites m.triangles (length m.triangles / 3))

    by : {site : ℕ} {ring : List ℕ} {s : CellState} → TryOf m b site ring s → length m.triangles / 3 ≤ length s.verts
    by (at_place x g i l to is from) =
        hull_long b (length m.triangles / 3) m.halfedges m.hull (table_of m) x.at i (no_cells m b x) (begun_long g) to
    by (at_halfedge x g h all e l to empty is from) =
        rest_run_long b (length m.triangles / 3) m.triangles m.halfedges e h
        (hull_long b (length m.triangles / 3) m.halfedges m.hull (table_of m) x.at (length m.hull) (no_cells m b x) (begun_long g) all) to
