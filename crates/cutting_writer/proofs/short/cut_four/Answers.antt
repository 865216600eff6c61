-- `cutting_writer::short::cut_four`: one side after the other.
use Rattle.cutting_writer.specs.short.laws.Passing.{cut_all_lem}
use Rattle.cutting_writer.proofs.short.cut_four.Goals as goal

pub returns : goal.returns
returns c = cut_all_lem c.args.b c.args.sites.now c.cut_side-t.ensures c.cut_side-u.ensures c.cut_side-v.ensures c.cut_side.ensures
