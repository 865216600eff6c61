-- The sides that were passed are counted.
use Rattle.certifying.specs.sides.laws.Tallies.{TalliesTo}
use Rattle.certifying.specs.sides.Chains.{laid_ends}
use Rattle.certifying.specs.sides.Sides.{leaves_at, reaches_at}
use Rattle.certifying.proofs.sides.left_once.Given as goal

abbrev pub invariant-loop-k : goal.invariant-loop-k
invariant-loop-k l =
    TalliesTo (leaves_at l.bounds l.vertices l.indexes (laid_ends l.work l.count)) (reaches_at l.bounds l.vertices l.indexes (laid_ends l.work l.count)) l.count l.k l.left l.reached
