-- The places below i are fresh and marked.
use Rattle.mesh_check.specs.border.laws.Loops.{Marking}
use Rattle.mesh_check.proofs.border.mark_hull.Given as goal

abbrev pub invariant-loop-i : goal.invariant-loop-i
invariant-loop-i l = Marking l.fn.hull l.fn.sites l.fn.work l.work l.i
