-- What is left of the walk, behind what is laid, is the whole.
use Rattle.std.proofs.Common.{◌-◌, length}
use Rattle.cutting_writer.specs.short.laws.Laying.{SlotFilling}
use Rattle.cutting_writer.proofs.short.lay_walk.Given as goal

abbrev pub invariant-loop : goal.invariant-loop
invariant-loop l = SlotFilling l.triangles l.halfedges l.centers l.t l.k l.fn.slots l.count l.e l.last (length l.halfedges - l.counter) l.slots
