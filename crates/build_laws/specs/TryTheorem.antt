-- Theorem: the tries of a site, on an accepted mesh whose build is not refused. A site in use has one, another site has none; each gives nothing or the cell that
-- the site has in the end; so the cell of a site in use is empty exactly where each of its tries gave nothing.
use Rattle.std.specs.Prelude.{◌≡◌, refl, List, [], ◌⊎◌, ℕ, ◌/◌, ◌<◌, length, get_or}
use Rattle.std.proofs.Common.{sym, ap, ◌∙◌, ⊎_elim, arith}
use Rattle.plane.specs.declared.boxes.BoundingBox.{BoundingBox}
use Rattle.mesh.specs.Mesh.{Used}
use Rattle.mesh.specs.Accepted.{Mesh, table_of, Accepted}
use Rattle.mesh.specs.laws.Facts.{topology, used_end, start_used, end_used}
use Rattle.definition.specs.Fault.{ok}
use Rattle.definition.specs.Cell.{RingPart}
use Rattle.definition.specs.Build.{Extensions, ring_from, CellState, Built, build}
use Rattle.build_laws.specs.Tries.{no_cells, HullTo, RestTo, AllExtended, TryOf, at_place, at_halfedge, TryGives, TriedInVain}
use Rattle.build_laws.specs.laws.Runs.{ok_same, run_before}
use Rattle.build_laws.specs.laws.TryRuns.{hull_run, rest_step, rest_run}
use Rattle.build_laws.specs.laws.TryCells.{rest_got, place_told, halfedge_told}
use Rattle.build_laws.specs.laws.BuildStages.{BuildRan, ran}

-- a site that is tried is in use
pub tried_used : {m : Mesh} → Accepted m → (b : BoundingBox) {site : ℕ} {ring : List ℕ} {s : CellState}
    → TryOf m b site ring s → Used m.triangles site
tried_used a b (at_place x g i l to is from) = let e = a.topology.border.edges i l in rw (is, ← e.3) (start_used (topology a) e.0 e.1)
tried_used a b (at_halfedge x g h all e l to empty is from) = rw is (end_used (topology a) e (omega (arith, a.counts.same)))

module _ {m : Mesh} (a : Accepted m) (b : BoundingBox) {r : Built} (is : build m b ≡ ok r) where
  abbrev whole : BuildRan m b r
  whole = ran m b is

  same_begun : (x : Extensions) → AllExtended m b x → x ≡ whole.x
  same_begun x g = ok_same (sym g.reached ∙ whole.begun.reached)

  pub each_try : {site : ℕ} {ring : List ℕ} {s : CellState} → TryOf m b site ring s
      → (c : RingPart) × TryGives m.triangles b site ring s c × ((c.new ≡ []) ⊎ (c.new ≡ get_or r.cells site []))
  each_try {s = s} (at_place x g i l to is₁ from) =
      let all : HullTo m b x (length m.hull) whole.h = rw (same_begun x g) whole.on_hull in
      rw (is₁, from, whole.cells)
      (place_told a b x g whole.h all whole.s whole.rest i s l
      (sym (hull_run b (length m.triangles / 3) m.halfedges m.hull (table_of m) x.at i (no_cells m b x)) ∙ to))
  each_try {s = s} (at_halfedge x g h all e l to empty is₁ from) =
      let there : HullTo m b x (length m.hull) whole.h = rw (same_begun x g) whole.on_hull in
      let q : h ≡ whole.h = ok_same (sym all ∙ there) in
      let rest : RestTo m b h (length m.triangles) whole.s = rw q whole.rest in
      rw (is₁, from, whole.cells)
      (halfedge_told a b x g h all whole.s rest e s l (sym (rest_run b (length m.triangles / 3) m.triangles m.halfedges e h) ∙ to) (rw is₁ at empty))

  -- what a cell has was given by a try of its site
  pub filled_by_try : (site : ℕ) → (get_or r.cells site [] ≡ [])
      ⊎ ((ring : List ℕ) × (s : CellState) × (c : RingPart) × TryOf m b site ring s × TryGives m.triangles b site ring s c × (c.new ≡ get_or r.cells site []))
  filled_by_try site =
      rw whole.cells
      (rest_got a b whole.x whole.begun whole.h whole.on_hull site (length m.triangles) (omega arith) (sym (rest_run b (length m.triangles / 3)
      m.triangles m.halfedges (length m.triangles) whole.h) ∙ whole.rest))

  pub used_tried : {site : ℕ} → Used m.triangles site → (ring : List ℕ) × (s : CellState) × TryOf m b site ring s
  used_tried {site} u =
      let e = used_end (topology a) u in
      let l : e.0 < length m.triangles = omega (arith, e.1, a.counts.same) in
      let w = run_before (rest_step b (length m.triangles / 3) m.triangles m.halfedges) (length m.triangles) e.0 whole.h (omega arith) (sym
      (rest_run b (length m.triangles / 3) m.triangles m.halfedges (length m.triangles) whole.h) ∙ whole.rest) in
      ⊎_elim
      (λ empty.
      let to = rest_run b (length m.triangles / 3) m.triangles m.halfedges e.0 whole.h ∙ w.1 in
      (ring_from m.halfedges e.0, w.0, at_halfedge whole.x whole.begun whole.h whole.on_hull e.0 l to empty (sym e.2) refl))
      (λ g. (g.0, g.1, g.3))
      (rest_got a b whole.x whole.begun whole.h whole.on_hull site e.0 (omega arith) w.1)

  -- an empty cell of a site in use
  pub tried_in_vain : {site : ℕ} → Used m.triangles site → get_or r.cells site [] ≡ [] → TriedInVain m b site
  tried_in_vain u empty = record {
    some = used_tried u;
    all = λ ring s t. let w = each_try t in (w.0, w.1, ⊎_elim (λ q. q) (λ q. q ∙ empty) w.2);
  }

  -- and back: a cell that is not empty was not tried in vain
  pub in_vain_empty : {site : ℕ} → TriedInVain m b site → get_or r.cells site [] ≡ []
  in_vain_empty {site} v =
      ⊎_elim
      (λ q. q)
      (λ g. let w = v.all g.0 g.1 g.3 in sym g.5 ∙ ap (λ (c : RingPart). c.new) (ok_same (sym g.4 ∙ w.1)) ∙ w.2)
      (filled_by_try site)
