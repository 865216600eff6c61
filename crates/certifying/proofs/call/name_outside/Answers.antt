-- `certifying::call::name_outside` meets its contract.
use Rattle.certifying.specs.call.laws.Stages.{outside_is}
use Rattle.certifying.proofs.call.name_outside.Goals as goal

pub returns : goal.returns
returns c = outside_is c.args.bounds c.args.vertices.now c.args.offsets.now c.args.indexes.now c.args.s c.narrow.ensures c.entry_outside.ensures
