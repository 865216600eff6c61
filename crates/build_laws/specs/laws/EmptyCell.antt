-- A site in no triangle has an empty cell: its share is nothing, it owns no corner, since owners are sites in use, and no half-edge ends there.
use Rattle.std.specs.Prelude.{◌≡◌, refl, ◌≢◌, eqb, Float, length, get_or}
use Rattle.std.proofs.Common.{sym, ⊎_elim, arith}
use mathlib.Core.List.{List, [], ◌∷◌}
use Prim.Native.Nat.{ℕ, zero, suc, ◌≤◌, ◌<◌}
use Rattle.std.specs.Float.{nan}
use Rattle.base.specs.common.laws.Decide.{eq_or_ne}
use Rattle.base.specs.common.Count.{occ}
use Rattle.base.specs.common.laws.Count.{same_cases}
use Rattle.plane.specs.points.Plane.{at}
use Rattle.plane.specs.declared.points.Point.{Point}
use Rattle.plane.specs.boxes.Box.{corners_of}
use Rattle.plane.specs.boxes.Finite.{BoundedBox}
use Rattle.plane.specs.declared.boxes.BoundingBox.{BoundingBox}
use Rattle.mesh.specs.Mesh.{leftmost_of, Used}
use Rattle.mesh.specs.Accepted.{mesh, Accepted, site_count}
use Rattle.mesh.specs.laws.Facts.{topology, start_used}
use Rattle.walks.specs.paths.Path.{hop_of, path_end}
use Rattle.walks.specs.paths.PathNeeds.{Walkable, Towards}
use Rattle.mesh.specs.laws.Occurs.{occ_below, occ_there}
use Rattle.walks.specs.paths.laws.WholePath.{goes_used}
use Rattle.definition.specs.Fault.{ok}
use Rattle.definition.specs.Cell.{Entry}
use Rattle.definition.specs.Build.{owners_from, Built, build}
use Rattle.definition.specs.laws.Gives.{gives_ok, picked}
use Rattle.build_laws.specs.laws.Owners.{ready, towards_corner}
use Rattle.build_laws.specs.Theorems.{room}
use Rattle.build_laws.specs.laws.CellCount.{cell_count, CellsTallied, tallied, four_owners}

none_there : (v : ℕ) (l : List ℕ) → ((k : ℕ) → k < length l → get_or l k 0 ≢ v) → occ v l ≡ 0
none_there v [] h = refl
none_there v (x ∷ l) h =
    ⊎_elim (λ w. absurd (h 0 (omega arith) (sym w.0))) (λ w. omega (arith, w.1, none_there v l (λ k b. h (suc k) (omega arith)))) (same_cases v x)

no_entry : (c : List Entry) → length c ≤ 0 → c ≡ []
no_entry [] h = refl
no_entry (e ∷ es) h = absurd (omega arith)

-- ---- owners are in use
module _ (sites : List Float) (tri he left : List ℕ) (n : ℕ) (m : Walkable tri he left n) where
  end_in_use : (p : Point) → Towards sites p n → (k s : ℕ) → 0 < occ s tri → 0 < occ (path_end sites tri he left p k s) tri
  unfolding path_end
  end_in_use p t zero s u = u
  end_in_use p t (suc k) s u =
      picked (λ (r : ℕ). 0 < occ r tri) (eqb (hop_of sites tri he left p s) s) _ _
      (λ e. u)
      (λ e. end_in_use p t k (hop_of sites tri he left p s)
      (⊎_elim (λ q. rw q u) (λ q. goes_used sites tri he left p n m t s (occ_below tri n s m.named u) q) (eq_or_ne (hop_of sites tri he left p s) s)))

  owner_in_use : (corners : List Point) (s : ℕ) → 0 < occ s tri → ((c : ℕ) → c < length corners → Towards sites (get_or corners c (at nan nan)) n)
      → (c : ℕ) → c < length corners → 0 < occ (get_or (owners_from sites tri he left n s corners) c 0) tri
  unfolding owners_from
  owner_in_use [] s u t c h = absurd (omega arith)
  owner_in_use (p ∷ ps) s u t zero h = end_in_use p (t 0 (omega arith)) n s u
  owner_in_use (p ∷ ps) s u t (suc c) h = owner_in_use ps (path_end sites tri he left p n s) (end_in_use p (t 0 (omega arith)) n s u) (λ d k. t (suc d) (omega arith)) c (omega arith)

module _ {sites : List Float} {tri he hull : List ℕ} (a : Accepted (mesh sites tri he hull)) (s : ℕ) (none : Used tri s → ⊥) where
  not_in_use : occ s tri ≡ 0
  not_in_use = none_there s tri (λ k l q. none (k, l, q))

  hull_used : (k : ℕ) → k < length hull → Used tri (get_or hull k 0)
  hull_used k l = let e = a.topology.border.edges k l in rw e.3 at (start_used (topology a) e.0 e.1)

  not_on_hull : occ s hull ≡ 0
  not_on_hull = none_there s hull (λ k l q. none (rw q at (hull_used k l)))

  module _ {b : BoundingBox} (box : BoundedBox 101 b) {r : Built} (is : build (mesh sites tri he hull) b ≡ ok r) where
    owns_none : occ s r.owners ≡ 0
    unfolding corners_of
    owns_none =
        let t = gives_ok (CellsTallied (mesh sites tri he hull) b) (tallied (mesh sites tri he hull) b) is in
        let first = hull_used 0 (omega (arith, a.counts.three_on_hull)) in
        let used : 0 < occ (get_or hull 0 0) tri = rw first.2 at (occ_there tri first.0 first.1) in
        none_there s r.owners (λ k l q.
        let h : k < 4 = omega (arith, four_owners (mesh sites tri he hull) b t) in
        let z = owner_in_use sites tri he (leftmost_of tri he (site_count sites)) (site_count sites) (ready a) (corners_of b) (get_or hull 0 0) used (λ d i. towards_corner a box d i) k h in
        let o : 0 < occ (get_or r.owners k 0) tri = rw t.found z in
        absurd (omega (arith, not_in_use, rw q at o)))

    pub empty_cell : s < site_count sites → get_or r.cells s [] ≡ []
    empty_cell l =
        let n = gives_ok (λ (x : Built). length x.cells ≡ site_count sites) (cell_count (mesh sites tri he hull) b) is in
        no_entry _ (omega (arith, (room a box is).region s (omega arith), not_in_use, not_on_hull, owns_none))
