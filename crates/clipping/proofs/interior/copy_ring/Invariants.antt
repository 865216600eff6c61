-- k entries of the cell are written, and the ring stands behind the cell as it was.
use Rattle.clipping.specs.interior.laws.RingCopy.{Copied}
use Rattle.clipping.proofs.interior.copy_ring.Given as goal

abbrev pub invariant-loop-k : goal.invariant-loop-k
invariant-loop-k l = Copied l.fn.indexes l.base l.ring l.len l.indexes l.k l.at
