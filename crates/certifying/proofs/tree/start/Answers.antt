-- `certifying::tree::start` meets its contract: the numbers in turn.
use Rattle.certifying.specs.tree.laws.Orders.{start_order}
use Rattle.certifying.proofs.tree.start.Goals as goal

pub returns : goal.returns
returns c = (start_order c.loop-i.invariant c.loop-i-test.false c.requires.1, c.loop-i.invariant.same)
