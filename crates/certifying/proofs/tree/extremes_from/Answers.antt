-- `certifying::tree::extremes_from` meets its contract: the sites that were passed are within.
use Rattle.std.proofs.Common.{◌+◌, arith}
use Rattle.certifying.specs.tree.laws.Nodes.{slice_item, boxes_step, boxes_to}
use Rattle.certifying.proofs.tree.extremes_from.Goals as goal

pub loop-o-preserved : goal.loop-o-preserved
loop-o-preserved c =
    let item = slice_item c.args.room.now (c.args.from + 1) c.args.to c.loop-o.o-index c.loop-o-test.true in
    boxes_to (boxes_step c.loop-o.invariant (rw item at c.widened-e.ensures)) (omega arith)
