-- What is written and the loop from s on are the whole loop.
use Rattle.mending.specs.border.laws.Tracing.{Tracing}
use Rattle.mending.proofs.border.trace.Given as goal

abbrev pub invariant-loop-k : goal.invariant-loop-k
invariant-loop-k l = Tracing l.fn.work l.fn.begin l.fn.mended l.mended l.s l.k
