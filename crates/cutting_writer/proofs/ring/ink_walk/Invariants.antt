-- `cutting_writer::ring::ink_walk`: the definition on what is left of the walk, from the present page, is the whole.
use Rattle.std.proofs.Common.{◌-◌, length}
use Rattle.cutting.specs.pen.Pen.{page}
use Rattle.cutting_writer.specs.ring.laws.Walks.{Inking}
use Rattle.cutting_writer.proofs.ring.ink_walk.Given as goal

abbrev pub invariant-loop : goal.invariant-loop
invariant-loop l = Inking l.halfedges l.t (page l.fn.start l.centers l.fn.indexes) l.pen l.indexes (length l.halfedges - l.counter) l.e
