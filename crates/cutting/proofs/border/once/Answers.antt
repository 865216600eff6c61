-- `cutting::border::once`: each answer by the test that leads to it.
use Rattle.cutting.specs.border.laws.Counting.{once_is, once_not}
use Rattle.cutting.proofs.border.once.Goals as goal

pub returns-then-t : goal.returns-then-t
returns-then-t c = once_is c.args.t c.if-t.true

pub returns-else-t : goal.returns-else-t
returns-else-t c = once_not c.args.t c.if-t.false
