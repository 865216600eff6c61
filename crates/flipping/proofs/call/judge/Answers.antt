-- Rules 7 to 10, which clear the slice themselves; then rule 23 by the table that they leave there.
use Rattle.std.specs.Prelude.{not}
use Rattle.std.proofs.Common.{refl, ap}
use Rattle.base.specs.common.laws.Decide.{granted}
use Rattle.mesh.specs.laws.Refusing.{fault_handed}
use Rattle.mesh.specs.laws.Verdicts.{fault_numbered}
use Rattle.flipping.specs.call.laws.Outcomes.{judged_topology, asked, judged_made}
use Rattle.flipping.proofs.call.judge.Goals as goal

pub returns-in_err-check_topology : goal.returns-in_err-check_topology
returns-in_err-check_topology c =
    rw (fault_handed c.from_residual.result _ c.from_residual.ensures.1)
    (judged_topology _ _ _ _ _ _ _ c.requires _ _ c.in_err-check_topology.ensures _ refl (fault_numbered _))

pub may_flip-requires : goal.may_flip-requires
may_flip-requires c = asked _ _ _ _ _ c.args.a _ c.requires _ _ c.in_ok-check_topology.ensures _ refl refl

pub returns : goal.returns
returns c =
    judged_made _ _ _ _ _ _ _ c.requires _ _ c.in_ok-check_topology.ensures _ refl refl
    (granted c.may_flip.result (ap not c.if-not-may_flip.false) c.may_flip.ensures)
