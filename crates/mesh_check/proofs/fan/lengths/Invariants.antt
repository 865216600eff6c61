-- The entries before this one are lengths, the others are the old ones.
use Rattle.mesh_check.specs.fan.laws.Loops.{Measuring}
use Rattle.mesh_check.proofs.fan.lengths.Given as goal

abbrev pub invariant-loop-entry : goal.invariant-loop-entry
invariant-loop-entry l = Measuring l.fn.halfedges l.fn.work l.work l.entry-index
