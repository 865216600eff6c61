-- After k edges the definition on the rest of the turned ring, from where the walk stands, put after what is done, is the whole; the ring itself
-- stays, since the cell ends before it.
use Rattle.clipping.specs.laws.RingWalk.{Round}
use Rattle.clipping.proofs.ring.walk_ring.Given as goal

abbrev pub invariant-loop-k : goal.invariant-loop-k
invariant-loop-k l = Round l.env l.ring l.len l.f l.fn.tip l.fn.vertices l.fn.indexes l.k l.at l.reused l.vertices l.indexes
