-- The entries before this one are taken apart.
use Rattle.mesh_check.specs.degrees.Packed.{Unpacks}
use Rattle.mesh_check.proofs.degrees.unpack.Given as goal

abbrev pub invariant-loop-entry : goal.invariant-loop-entry
invariant-loop-entry l = Unpacks l.fn.halfedges l.fn.work l.work l.entry-index
