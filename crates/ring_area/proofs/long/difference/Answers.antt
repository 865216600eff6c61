-- `ring_area::long::difference` meets its contract: each turn makes one limb more.
use Rattle.std.proofs.Common.{arith}
use Rattle.ring_area.specs.long.laws.Differences.{differing_step}
use Rattle.ring_area.proofs.long.difference.Goals as goal

pub loop-i-preserved : goal.loop-i-preserved
loop-i-preserved c = let p = c.requires in differing_step c.loop-i.invariant p.0 p.1 p.2 p.3 (omega arith)
