-- The sides that were passed are counted; each is chained before the last one.
use Rattle.certifying.specs.sides.laws.Walking.{WaysTo}
use Rattle.certifying.specs.sides.Chains.{laid_ends}
use Rattle.certifying.proofs.sides.count_ways.Given as goal

abbrev pub invariant-loop-x : goal.invariant-loop-x
invariant-loop-x l = WaysTo l.vertices l.indexes (laid_ends l.work l.count) l.count l.p l.q l.x l.there l.back

abbrev pub decreases-loop-x : goal.decreases-loop-x
decreases-loop-x l = l.x
