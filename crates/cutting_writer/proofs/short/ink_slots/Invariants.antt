-- The definition on what is left, from the present page, is the whole.
use Rattle.cutting.specs.pen.Pen.{page}
use Rattle.cutting_writer.specs.short.laws.Inking.{Inking}
use Rattle.cutting_writer.proofs.short.ink_slots.Given as goal

abbrev pub invariant-loop-i : goal.invariant-loop-i
invariant-loop-i l = Inking l.b l.centers l.from l.count l.slots (page l.fn.start l.fn.vertices l.fn.indexes) l.i (page l.pen l.vertices l.indexes)
