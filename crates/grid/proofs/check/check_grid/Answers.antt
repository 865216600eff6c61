-- Each rule is tried where those before it hold.
use Rattle.std.specs.Prelude.{not}
use Rattle.std.proofs.Common.{ap}
use Rattle.std.proofs.lemmas.Result.{err_from_is_err_and}
use Rattle.base.specs.common.laws.Decide.{refused, granted}
use Rattle.grid.specs.check.laws.Outcome.{by_counts, by_room, by_grid, by_mesh, ready, by_scan}
use Rattle.grid.proofs.check.check_grid.Goals as goal

pub returns-then-not-counts_ok : goal.returns-then-not-counts_ok
returns-then-not-counts_ok c = by_counts _ _ (refused c.counts_ok.result (ap not c.if-not-counts_ok.true) c.counts_ok.ensures)

pub returns-then-work-count : goal.returns-then-work-count
returns-then-work-count c = by_room _ _ (granted c.counts_ok.result (ap not c.if-not-counts_ok.false) c.counts_ok.ensures) c.if-work-count.true

pub returns-then-first_beyond-count : goal.returns-then-first_beyond-count
returns-then-first_beyond-count c =
    by_grid _ _ (granted c.counts_ok.result (ap not c.if-not-counts_ok.false) c.counts_ok.ensures) c.if-work-count.false _ c.first_beyond.ensures c.if-first_beyond-count.true

pub returns-in_err-check_topology : goal.returns-in_err-check_topology
returns-in_err-check_topology c =
    let p = err_from_is_err_and c.from_residual.result c.from_residual.ensures.1 in
    rw (p.1, p.2) (by_mesh _ _ (granted c.counts_ok.result (ap not c.if-not-counts_ok.false) c.counts_ok.ensures) c.if-work-count.false _
    c.first_beyond.ensures c.if-first_beyond-count.false _ _ c.in_err-check_topology.ensures)

pub judge-requires : goal.judge-requires
judge-requires c =
    ready _ c.args.work.now (granted c.counts_ok.result (ap not c.if-not-counts_ok.false) c.counts_ok.ensures) c.if-work-count.false _
    c.first_beyond.ensures c.if-first_beyond-count.false _ c.in_ok-check_topology.ensures

pub returns : goal.returns
returns c =
    by_scan _ _ (granted c.counts_ok.result (ap not c.if-not-counts_ok.false) c.counts_ok.ensures) c.if-work-count.false _
    c.first_beyond.ensures c.if-first_beyond-count.false _ c.in_ok-check_topology.ensures _ c.judge.ensures
