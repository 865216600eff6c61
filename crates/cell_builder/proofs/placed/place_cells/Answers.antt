-- Each turn places one cell more.
use Rattle.std.specs.Prelude.{◌≤◌, ◌≢◌, ℕ, length, get_or}
use Rattle.std.proofs.Common.{arith, sym, ◌∙◌}
use Rattle.base.specs.common.Count.{occ}
use Rattle.mesh.specs.Mesh.{whole_of}
use Rattle.mesh.specs.laws.WalkSteps.{walk_length}
use Rattle.cell_memory.specs.layout.laws.Compacted.{compacting_start, moved_start, compacting_step, moved_end, compacting_within}
use Rattle.cell_builder.specs.placed.laws.Placing.{steps_more, steps_all, cell_ready, cell_placed}
use Rattle.cell_builder.proofs.placed.place_cells.Goals as goal

pub loop-s-init : goal.loop-s-init
loop-s-init c = (compacting_start _ _ _ _ c.wide-from.ensures, omega arith, omega arith, λ owners few cells q r. moved_start _ _ _ _)

pub place_cell-p-requires : goal.place_cell-p-requires
place_cell-p-requires c = cell_ready _ _ _ _ _ _ _ _ _ _ _ _ c.loop-s.invariant.0 c.loop-s-test.true c.requires c.wide-to.ensures

-- a walk is not longer than the list of half-edges
pub overflow_add-steps : goal.overflow_add-steps
overflow_add-steps c =
    let a = c.args in
    let t = get_or a.table.now c.loop-s.s 0 in
    omega (
      arith,
      c.loop-s.invariant.2,
      c.place_cell-p.ensures.2,
      walk_length a.halfedges.now t (length a.halfedges.now) t,
      c.requires.few,
      c.loop-s-test.true,
      c.requires.few_sites,
    )

pub loop-s-preserved : goal.loop-s-preserved
loop-s-preserved c =
    let a = c.args in
    let t = get_or a.table.now c.loop-s.s 0 in
    let g = c.loop-s.invariant.0 in
    let h = c.loop-s-test.true in
    let e = c.place_cell-p.ensures in
    let few : length (whole_of a.halfedges.now t) ≤ 393216 = omega (arith, walk_length a.halfedges.now t (length a.halfedges.now) t, c.requires.few) in (
      compacting_step _ _ _ _ _ _ _ _ _ g h c.requires.rising c.wide-to.ensures _ _ e.0 e.1 c.place_cell-p.auto.indexes,
      steps_more _ _ _ _ _ c.loop-s.invariant.1 e.2,
      omega (arith, c.loop-s.invariant.2, e.2, few),
      λ owners own cells n r. cell_placed _ _ _ _ _ _ _ _ _ _ _ _ g h c.requires c.wide-to.ensures _ _ e.1 _ e.3 owners own cells n r
          (c.loop-s.invariant.3 owners own cells n r),
    )

pub returns : goal.returns
returns c =
    let i = c.loop-s.invariant in
    let own : (k : ℕ) → k ≢ c.wide-crowd.result → occ k c.args.owners ≤ 2 = (λ k n. c.crowd_of.ensures k (λ z. n (z ∙ sym c.wide-crowd.ensures))) in (
      compacting_within _ _ _ _ _ _ _ _ i.0 c.requires.rising,
      steps_all _ _ _ _ _ (omega (arith, i.0.within, c.loop-s-test.false)) i.1,
      λ cells n r. moved_end _ _ _ _ _ _ _ _ i.0 (omega arith) c.requires.rising cells n (i.3 c.args.owners own cells n r),
    )
