-- `auditing::corners::entry_outside` meets its contract: the first such corner is there.
use Rattle.std.proofs.Common.{arith}
use Rattle.areas.specs.laws.Entries.{cell_named}
use Rattle.auditing.specs.laws.Names.{outside_below, entry_named}
use Rattle.auditing.proofs.corners.entry_outside.Goals as goal

pub first_outside-k-requires : goal.first_outside-k-requires
first_outside-k-requires c = rw c.cell-entries.ensures (cell_named c.args.offsets.now c.args.indexes.now c.requires.cut c.args.s c.requires.own c.requires.named)

pub offset_bounds-entries-k : goal.offset_bounds-entries-k
offset_bounds-entries-k c = record {
  fits = omega (
    arith,
    outside_below c.args.bounds c.args.vertices.now c.args.offsets.now c.args.indexes.now c.args.s c.cell-entries.ensures c.first_outside-k.ensures c.requires.outside,
  );
}

pub bounds-entries-k : goal.bounds-entries-k
bounds-entries-k c =
    outside_below c.args.bounds c.args.vertices.now c.args.offsets.now c.args.indexes.now c.args.s c.cell-entries.ensures c.first_outside-k.ensures c.requires.outside

pub returns : goal.returns
returns c = entry_named c.args.bounds c.args.vertices.now c.args.offsets.now c.args.indexes.now c.args.s c.cell-entries.ensures c.first_outside-k.ensures
