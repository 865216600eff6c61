-- `audit::turns::count_turned` meets its contract: the count of the triangles that were passed.
use Rattle.std.proofs.Common.{arith}
use Rattle.audit.specs.turns.laws.Turns.{counted_start, counted_few, counted_step, counted_end}
use Rattle.audit.proofs.turns.count_turned.Goals as goal

pub loop-t-init : goal.loop-t-init
loop-t-init c = counted_start _ _ _

pub one_if_turned-count-requires : goal.one_if_turned-count-requires
one_if_turned-count-requires c = (c.requires, c.loop-t-test.true)

pub overflow_add-count : goal.overflow_add-count
overflow_add-count c = let l = c in omega (arith, counted_few _ _ _ l.loop-t.invariant c.loop-t-test.true c.one_if_turned-count.ensures)

pub loop-t-preserved : goal.loop-t-preserved
loop-t-preserved c = let l = c in counted_step _ _ _ l.loop-t.invariant c.loop-t-test.true c.one_if_turned-count.ensures

pub returns : goal.returns
returns c = counted_end _ _ _ c.loop-t.invariant c.loop-t-test.false
