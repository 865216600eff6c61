-- `ring_area::limits::divide` meets its contract: each turn divides one limb more.
use Rattle.std.proofs.Common.{arith}
use Rattle.ring_area.specs.limits.laws.Divisions.{dividing_step}
use Rattle.ring_area.proofs.limits.divide.Goals as goal

pub loop-i-preserved : goal.loop-i-preserved
loop-i-preserved c = dividing_step c.loop-i.invariant c.requires.0 (omega arith)
