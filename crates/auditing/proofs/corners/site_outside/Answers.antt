-- `auditing::corners::site_outside` meets its contract: the first corner that is outside is before the end.
use Rattle.std.proofs.Common.{arith}
use Rattle.areas.specs.laws.Entries.{cell_named}
use Rattle.auditing.specs.corners.laws.Corners.{cell_outside_lem, site_outside_lem}
use Rattle.auditing.proofs.corners.site_outside.Goals as goal

pub first_outside-requires : goal.first_outside-requires
first_outside-requires c = rw c.cell-entries.ensures (cell_named _ _ c.requires.0 c.args.s (omega arith) c.requires.1)

pub returns : goal.returns
returns c =
    site_outside_lem c.args.bounds c.args.vertices.now c.args.offsets.now c.args.indexes.now c.args.s c.cell-entries.ensures
    (cell_outside_lem c.args.bounds c.args.vertices.now c.cell-entries.result.now c.first_outside.ensures)
