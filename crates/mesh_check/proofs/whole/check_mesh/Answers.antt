-- Each rule is tried where those before it hold; one that stands before rule 7 leaves the work slice alone.
use Rattle.std.proofs.Common.{ap, not}
use Rattle.base.specs.common.laws.Decide.{refused, granted}
use Rattle.mesh_check.specs.whole.laws.Steps.{mesh_counts, mesh_room, mesh_coordinate, mesh_topology}
use Rattle.mesh_check.proofs.whole.check_mesh.Goals as goal

pub returns-then-not-counts_ok : goal.returns-then-not-counts_ok
returns-then-not-counts_ok c = mesh_counts _ _ (refused c.counts_ok.result (ap not c.if-not-counts_ok.true) c.counts_ok.ensures)

pub returns-then-work-count : goal.returns-then-work-count
returns-then-work-count c = mesh_room _ _ (granted c.counts_ok.result (ap not c.if-not-counts_ok.false) c.counts_ok.ensures) c.if-work-count.true

pub returns-then-s-count : goal.returns-then-s-count
returns-then-s-count c =
    mesh_coordinate _ _ (granted c.counts_ok.result (ap not c.if-not-counts_ok.false) c.counts_ok.ensures) c.if-work-count.false _ c.first_bad_site-s.ensures c.if-s-count.true

pub returns : goal.returns
returns c =
    mesh_topology _ _ (granted c.counts_ok.result (ap not c.if-not-counts_ok.false) c.counts_ok.ensures) c.if-work-count.false _
    c.first_bad_site-s.ensures c.if-s-count.false _ _ c.check_topology.ensures
