-- `certifying::call::name_twin` meets its contract.
use Rattle.certifying.specs.call.laws.Stages.{twin_named}
use Rattle.certifying.proofs.call.name_twin.Goals as goal

pub returns : goal.returns
returns c = twin_named c.args.sites.now c.args.s c.narrow.ensures c.twin_of.ensures
