-- `certifying::sides::insert_all` meets its contract.
use Rattle.certifying.specs.sides.laws.Inserting.{inserts_start}
use Rattle.certifying.proofs.sides.insert_all.Goals as goal

pub loop-k-init : goal.loop-k-init
loop-k-init c = inserts_start c.requires c.lay.ensures
