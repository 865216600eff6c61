-- The half-edges below e are chained.
use Rattle.std.specs.Prelude.{length}
use Rattle.mending.specs.pairs.laws.Chaining.{Chaining}
use Rattle.mending.proofs.pairs.chain.Given as goal

abbrev pub invariant-loop-e : goal.invariant-loop-e
invariant-loop-e l = Chaining l.fn.triangles l.heads l.links (length l.fn.heads) (length l.fn.links) l.e
