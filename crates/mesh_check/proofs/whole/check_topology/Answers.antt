-- A refusal clears the slice; where no rule refuses it holds what rule 10 left there.
use Rattle.std.proofs.Common.{refl}
use Rattle.mesh.specs.laws.Verdicts.{fault_numbered}
use Rattle.mesh_check.specs.whole.laws.Steps.{topology_shape, topology_border, topology_whole}
use Rattle.mesh_check.proofs.whole.check_topology.Goals as goal

pub returns-in-Err : goal.returns-in-Err
returns-in-Err c = topology_shape _ _ _ _ _ _ _ c.in-Err.ensures refl _ (fault_numbered _) c.clear.ensures

pub returns-in-Err-check_border : goal.returns-in-Err-check_border
returns-in-Err-check_border c =
    topology_border _ _ _ _ _ _ _ c.in_default.ensures refl refl _ _ _ c.in-Err-check_border.ensures refl _ (fault_numbered _) c.check_border.auto.work c.clear-in-Err-check_border.ensures

pub returns : goal.returns
returns c = topology_whole _ _ _ _ _ _ _ c.in_default.ensures refl refl _ _ _ c.in_default-check_border.ensures refl refl
