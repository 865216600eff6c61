-- The rings that were passed are laid.
use Rattle.certifying.specs.sides.Chains.{LaidTo}
use Rattle.certifying.proofs.sides.lay.Given as goal

abbrev pub invariant-loop-s : goal.invariant-loop-s
invariant-loop-s l = LaidTo l.offsets l.indexes l.s l.fn.work l.work
