-- The half-edges that end at a site below a have their pairs, and no two that start at one run the same way.
use Rattle.std.specs.Prelude.{length}
use Rattle.mending.specs.pairs.laws.Pairing.{Pairing}
use Rattle.mending.proofs.pairs.pair_sites.Given as goal

abbrev pub invariant-loop-a : goal.invariant-loop-a
invariant-loop-a l = Pairing l.fn.triangles l.fn.pairs l.pairs l.marks (length l.fn.marks) l.a
