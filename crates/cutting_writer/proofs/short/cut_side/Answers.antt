-- `cutting_writer::short::cut_side`: a side that leaves the ring alone.
use Rattle.cutting_writer.specs.stream.Stages.{side_at}
use Rattle.cutting_writer.specs.short.laws.Passing.{cut_none}
use Rattle.cutting_writer.proofs.short.cut_side.Goals as goal

pub returns-then-all_within : goal.returns-then-all_within
returns-then-all_within c =
    let a = c.args in cut_none (side_at a.b a.sites.now a.s) a.l c.requires.0 a.slots.now (c.all_within.ensures c.if-all_within.true a.sites.now)
