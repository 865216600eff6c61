-- A build that is refused in its cells is refused at a try, and what the builder met there is the edge at which the try stops; and back.
use Rattle.std.specs.Prelude.{◌≡◌, List, ℕ, ◌/◌, Float, length, get_or}
use Rattle.std.proofs.Math.Path.{refl}
use Rattle.std.proofs.Common.{sym, ◌∙◌}
use Rattle.plane.specs.declared.boxes.BoundingBox.{BoundingBox}
use Rattle.mesh.specs.Mesh.{end_of, leftmost_of}
use Rattle.mesh.specs.Accepted.{mesh, Accepted, site_count}
use Rattle.definition.specs.declared.Fault.{Fault}
use Rattle.definition.specs.Fault.{refused}
use Rattle.definition.specs.Cell.{clip_cell}
use Rattle.definition.specs.Build.{Extensions, ring_from, hull_ring, CellState, clip_hull, clip_rest, clip_all}
use Rattle.build_laws.specs.Tries.{no_cells, AllExtended, TryOf, at_place, at_halfedge}
use Rattle.build_laws.specs.Met.{FaultMet, at_ring_edge}
use Rattle.build_laws.specs.laws.Runs.{then_ok, then_refused, Halted, halted_first, halted_later, halted, run_refused, refused_run}
use Rattle.build_laws.specs.laws.BeforeCells.{extend_ok}
use Rattle.build_laws.specs.laws.RingFault.{clip_met}
use Rattle.build_laws.specs.laws.TryRuns.{hull_step, hull_run, rest_step, rest_run, rest_refused, rest_tries, into_refused, refused_into, tried_long}
use Rattle.build_laws.specs.laws.BuildStages.{all_cells, Stage, in_cells}

module _ {sites : List Float} {tri he hull : List ℕ} (a : Accepted (mesh sites tri he hull)) (b : BoundingBox) where
  abbrev Here : Fault → Type 0
  Here f = FaultMet (mesh sites tri he hull) b f

  -- a try that is refused
  tried_met : {x : Extensions} (ring : List ℕ) (s : CellState) (site : ℕ) {f : Fault} → AllExtended (mesh sites tri he hull) b x → TryOf (mesh sites tri he hull) b site ring s
      → clip_cell b (length tri / 3) site ring s.verts s.owners ≡ refused f → Here f
  tried_met ring s site {f} g t h =
      let w = clip_met b (length tri / 3) site ring s.verts s.owners (tried_long a b t) h in
      at_ring_edge g.centers (extend_ok a b g.reached) ring s (rw w.0 t) (rw w.0 w.1)

  pub cells_refused : (x : Extensions) {f : Fault} → AllExtended (mesh sites tri he hull) b x → all_cells (mesh sites tri he hull) b x ≡ refused f → FaultMet (mesh sites tri he hull) b f
  unfolding clip_all
  cells_refused x {f} g h = by (halted (clip_hull b (length tri / 3) he hull (leftmost_of tri he (site_count sites)) x.at 0 (length hull) (no_cells (mesh sites tri he hull) b x)) _ h)
    where
      by : Halted (clip_hull b (length tri / 3) he hull (leftmost_of tri he (site_count sites)) x.at 0 (length hull) (no_cells (mesh sites tri he hull) b x))
          (λ s. clip_rest b (length tri / 3) tri he 0 (length tri) s) f → Here f
      by (halted_first e) =
          let table = leftmost_of tri he (site_count sites) in
          let begin = no_cells (mesh sites tri he hull) b x in
          let w = run_refused (hull_step b (length tri / 3) he hull table x.at) (length hull) begin (sym (hull_run b (length tri / 3) he hull table x.at (length hull) begin) ∙ e) in
          let to = hull_run b (length tri / 3) he hull table x.at w.0 begin ∙ w.3 in
          tried_met (hull_ring he hull table x.at w.0) w.1 (get_or hull w.0 0) g (at_place x g w.0 w.2 to refl refl) (into_refused b (length tri / 3) _ _ w.1 w.4)
      by (halted_later s all e) =
          let w = run_refused (rest_step b (length tri / 3) tri he) (length tri) s (sym (rest_run b (length tri / 3) tri he (length tri) s) ∙ e) in
          let to = rest_run b (length tri / 3) tri he w.0 s ∙ w.3 in
          let q = rest_refused b (length tri / 3) tri he w.0 w.1 w.4 in
          tried_met (ring_from he w.0) w.1 (end_of tri w.0) g (at_halfedge x g s all w.0 w.2 to q.0 refl refl) (into_refused b (length tri / 3) _ _ w.1 q.1)

  -- and back

  pub refused_cells : (site : ℕ) (ring : List ℕ) (s : CellState) {f : Fault} → TryOf (mesh sites tri he hull) b site ring s
      → clip_cell b (length tri / 3) site ring s.verts s.owners ≡ refused f → Stage (mesh sites tri he hull) b f
  unfolding clip_all
  refused_cells site ring s (at_place x g i l to is from) h =
      let table = leftmost_of tri he (site_count sites) in
      let begin = no_cells (mesh sites tri he hull) b x in
      let e = refused_into b (length tri / 3) (get_or hull i 0) (hull_ring he hull table x.at i) s (rw (is, from) at h) in
      let w = refused_run (hull_step b (length tri / 3) he hull table x.at) (length hull) i begin s l (sym (hull_run b (length tri / 3) he hull table x.at i begin) ∙ to) e in
      in_cells x g (then_refused _ (hull_run b (length tri / 3) he hull table x.at (length hull) begin ∙ w))
  refused_cells site ring s (at_halfedge x g h₀ all i l to empty is from) h =
      let e = refused_into b (length tri / 3) (end_of tri i) (ring_from he i) s (rw (is, from) at h) in
      let t = rest_tries b (length tri / 3) tri he i s (rw is at empty) in
      let w = refused_run (rest_step b (length tri / 3) tri he) (length tri) i h₀ s l (sym (rest_run b (length tri / 3) tri he i h₀) ∙ to) (t ∙ e) in
      in_cells x g (then_ok _ all ∙ rest_run b (length tri / 3) tri he (length tri) h₀ ∙ w)
