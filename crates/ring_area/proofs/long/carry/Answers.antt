-- `ring_area::long::carry` meets its contract: each turn settles one limb more.
use Rattle.std.proofs.Common.{arith}
use Rattle.ring_area.specs.long.laws.Carries.{carrying_step}
use Rattle.ring_area.proofs.long.carry.Goals as goal

pub loop-limb-preserved : goal.loop-limb-preserved
loop-limb-preserved c = carrying_step c.loop-limb.invariant (omega arith) c.requires
