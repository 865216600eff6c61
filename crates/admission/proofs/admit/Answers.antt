-- An early refusal leaves the work slice alone; else the verdict on the topology is the answer.
use Rattle.std.proofs.Common.{refl}
use Rattle.base.specs.refusal.laws.Number.{some_number, handed_on}
use Rattle.admission.specs.laws.Early.{refused_early, judged_late, fault_number}
use Rattle.admission.proofs.admit.Goals as goal

pub returns-in_err-early : goal.returns-in_err-early
returns-in_err-early c = rw (handed_on c.from_residual.result _ c.from_residual.ensures.1) (refused_early _ _ _ c.in_err-early.ensures _ c.requires.1 (some_number _))

pub returns-in_err-check_topology : goal.returns-in_err-check_topology
returns-in_err-check_topology c =
    rw (handed_on c.from_residual-in_err-check_topology.result _ c.from_residual-in_err-check_topology.ensures.1)
    (judged_late _ _ _ c.in_ok-early.ensures refl c.in_err-check_topology.ensures (fault_number _))

pub returns : goal.returns
returns c = judged_late _ _ _ c.in_ok-early.ensures refl c.in_ok-check_topology.ensures refl
