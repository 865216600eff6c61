-- `auditing::name_outside` meets its contract: the site, and the entry of its first such corner.
use Rattle.std.proofs.Common.{arith, refl}
use Rattle.auditing.specs.laws.Names.{outside_named}
use Rattle.auditing.proofs.name_outside.Goals as goal

pub narrow-requires : goal.narrow-requires
narrow-requires c = omega (arith, c.requires.own, c.requires.few)

pub returns : goal.returns
returns c =
    rw c.entry_outside.ensures
    (outside_named c.args.bounds c.args.vertices.now c.args.offsets.now c.args.indexes.now c.args.s refl refl c.narrow.ensures)
