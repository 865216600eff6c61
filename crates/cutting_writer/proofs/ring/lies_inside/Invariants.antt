-- `cutting_writer::ring::lies_inside`: what is left of the walk inside makes the whole inside.
use Rattle.std.proofs.Common.{◌-◌, length}
use Rattle.cutting_writer.specs.ring.laws.Walks.{Scan}
use Rattle.cutting_writer.proofs.ring.lies_inside.Given as goal

abbrev pub invariant-loop : goal.invariant-loop
invariant-loop l = Scan l.b l.halfedges l.centers l.t (length l.halfedges - l.counter) l.e
