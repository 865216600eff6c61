-- `certifying::tree::some_past` meets its contract: no corner that was passed is beyond.
use Rattle.ring_area.specs.lowest.laws.Loops.{passed_step, passed_yes, passed_no}
use Rattle.certifying.specs.tree.laws.Search.{past_corner}
use Rattle.certifying.proofs.tree.some_past.Goals as goal

pub returns-then-is_beyond : goal.returns-then-is_beyond
returns-then-is_beyond c =
    passed_yes c.loop-e.invariant c.loop-e-test.true
    (past_corner c.args.far c.args.s c.args.o c.args.vertices.now c.args.entries.now c.loop-e.e-index c.wide.ensures c.point_at.ensures c.is_beyond.ensures)
    c.if-is_beyond.true

pub loop-e-preserved : goal.loop-e-preserved
loop-e-preserved c =
    passed_step c.loop-e.invariant c.loop-e-test.true
    (past_corner c.args.far c.args.s c.args.o c.args.vertices.now c.args.entries.now c.loop-e.e-index c.wide.ensures c.point_at.ensures c.is_beyond.ensures)
    c.if-is_beyond.false

pub returns : goal.returns
returns c = passed_no c.loop-e.invariant c.loop-e-test.false
