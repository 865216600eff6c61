-- `queries::bulk_ends::write_ends` meets its contract.
use Rattle.std.proofs.Common.{ap, ◌∙◌}
use Rattle.plane.specs.declared.points.Point.{Point}
use Rattle.queries.specs.bulk_ends.Ends.{end_from}
use Rattle.queries.specs.bulk_ends.laws.Writes.{reaching_start, reaching_step}
use Rattle.queries.proofs.bulk_ends.write_ends.Goals as goal

pub loop-i-init : goal.loop-i-init
loop-i-init c = reaching_start _ _ _ _ _ c.requires.site

pub path_end-end-requires : goal.path_end-end-requires
path_end-end-requires c = (c.requires.walkable, rw c.point_at.ensures (c.requires.towards _ c.loop-i-test.true), c.loop-i.invariant.below)

pub loop-i-preserved : goal.loop-i-preserved
loop-i-preserved c =
    let from = end_from c.args.sites.now c.args.triangles.now c.args.halfedges.now c.args.table.now in
    reaching_step _ _ _ c.loop-i.invariant c.loop-i-test.true (c.path_end-end.ensures.last ∙ ap (λ (p : Point). from p c.loop-i.at) c.point_at.ensures)
    c.path_end-end.ensures.below
