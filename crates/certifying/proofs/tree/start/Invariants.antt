-- The places that were passed have their numbers.
use Rattle.certifying.specs.tree.laws.Orders.{StartTo}
use Rattle.certifying.proofs.tree.start.Given as goal

abbrev pub invariant-loop-i : goal.invariant-loop-i
invariant-loop-i l = StartTo l.i l.fn.room l.room
