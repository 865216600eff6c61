-- The rings that were passed are in the sums.
use Rattle.auditing.specs.total.laws.Sums.{RingsTo}
use Rattle.auditing.proofs.total.rings.Given as goal

abbrev pub invariant-loop-s : goal.invariant-loop-s
invariant-loop-s l = RingsTo l.vertices l.offsets l.indexes l.s l.fn.plus l.plus l.fn.minus l.minus
