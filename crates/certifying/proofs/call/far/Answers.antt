-- `certifying::call::far` meets its contract.
use Rattle.certifying.specs.call.laws.Stages.{far_is}
use Rattle.certifying.proofs.call.far.Goals as goal

pub returns : goal.returns
returns c =
    far_is c.args.bounds c.args.bits c.magnitude.ensures c.magnitude-2.ensures c.magnitude-3.ensures c.magnitude-4.ensures c.greater-x.ensures
    c.greater-y.ensures c.greater.ensures c.tolerance.ensures
