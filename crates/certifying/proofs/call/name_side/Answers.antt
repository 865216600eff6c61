-- `certifying::call::name_side` meets its contract: the ring is there.
use Rattle.std.proofs.Common.{arith}
use Rattle.certifying.specs.call.laws.Stages.{side_site, side_entry, side_is}
use Rattle.certifying.proofs.call.name_side.Goals as goal

pub narrow-requires : goal.narrow-requires
narrow-requires c = omega (arith, side_site c.args.sites.now c.args.offsets.now c.args.indexes.now c.args.e c.requires c.site_of_side-s.ensures, c.requires.few)

pub bounds-indexes-e : goal.bounds-indexes-e
bounds-indexes-e c = side_entry c.args.sites.now c.args.offsets.now c.args.indexes.now c.args.e c.requires

pub returns : goal.returns
returns c = side_is c.args.sites.now c.args.offsets.now c.args.indexes.now c.args.e c.site_of_side-s.ensures c.narrow.ensures
