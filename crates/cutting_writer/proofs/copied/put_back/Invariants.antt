-- `cutting_writer::copied::put_back`: as far as it came the stage stands there the other way round.
use Rattle.cutting_writer.specs.copied.laws.Laying.{PuttingBack}
use Rattle.cutting_writer.proofs.copied.put_back.Given as goal

abbrev pub invariant-loop-i : goal.invariant-loop-i
invariant-loop-i l = PuttingBack l.stage l.at l.fn.indexes l.n l.i l.indexes
