-- `cutting_writer::copied::put_back`: all of the stage stands there the other way round.
use Rattle.cutting_writer.specs.copied.laws.Laying.{putting_end}
use Rattle.cutting_writer.proofs.copied.put_back.Goals as goal

pub returns : goal.returns
returns c = putting_end _ _ _ _ _ _ c.loop-i.invariant c.requires.1 c.loop-i-test.false
