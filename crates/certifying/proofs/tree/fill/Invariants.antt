-- The nodes that were passed are filled.
use Rattle.certifying.specs.tree.Steps.{NodesTo}
use Rattle.certifying.proofs.tree.fill.Given as goal

abbrev pub invariant-loop-b : goal.invariant-loop-b
invariant-loop-b l = NodesTo l.sites l.w l.base l.b l.fn.room l.room
