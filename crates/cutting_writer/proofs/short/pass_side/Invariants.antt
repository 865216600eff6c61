-- What is left of the edges that come, behind what is written, is the whole.
use Rattle.cutting_writer.specs.stream.Stages.{side_at}
use Rattle.cutting_writer.specs.short.laws.Passing.{Passing}
use Rattle.cutting_writer.proofs.short.pass_side.Given as goal

abbrev pub invariant-loop-i : goal.invariant-loop-i
invariant-loop-i l = Passing (side_at l.b l.sites l.s) l.from l.count l.fn.slots l.i l.k l.slots
