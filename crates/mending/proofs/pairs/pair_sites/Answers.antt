-- After all sites every half-edge is paired.
use Rattle.std.proofs.Common.{arith}
use Rattle.mending.specs.pairs.laws.Pairing.{pairing_done}
use Rattle.mending.proofs.pairs.pair_sites.Goals as goal

pub returns : goal.returns
returns c = pairing_done _ _ _ _ _ _ c.loop-a.invariant _ c.requires.0 (omega arith) c.requires.5
