-- The sites that were passed are within.
use Rattle.std.proofs.Common.{◌+◌}
use Rattle.certifying.specs.tree.Steps.{BoxesFrom}
use Rattle.certifying.proofs.tree.extremes_from.Given as goal

abbrev pub invariant-loop-o : goal.invariant-loop-o
invariant-loop-o l = BoxesFrom l.sites l.room l.from (l.from + 1 + l.o-index) l.e.left l.e.top l.e.right l.e.bottom
