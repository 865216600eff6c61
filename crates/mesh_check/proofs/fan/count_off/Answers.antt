-- One turn is one step of `owed_to`.
use Rattle.std.proofs.Common.{refl}
use Rattle.mesh_check.specs.fan.Counts.{owed_to}
use Rattle.mesh_check.specs.fan.laws.Loops.{owed_next}
use Rattle.mesh_check.proofs.fan.count_off.Goals as goal

pub loop-e-init : goal.loop-e-init
unfolding owed_to
loop-e-init c = refl

pub loop-e-preserved : goal.loop-e-preserved
loop-e-preserved c = owed_next _ _ _ _ _ _ _ c.loop-e.invariant c.wide-s.ensures c.end_site.ensures c.less.ensures
