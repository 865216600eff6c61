-- No corner that was passed is beyond.
use Rattle.std.proofs.Common.{length}
use Rattle.ring_area.specs.lowest.laws.Loops.{NoneTo}
use Rattle.certifying.specs.tree.Tree.{corner_past}
use Rattle.certifying.proofs.tree.some_past.Given as goal

abbrev pub invariant-loop-e : goal.invariant-loop-e
invariant-loop-e l = NoneTo (corner_past l.far l.s l.o l.vertices l.entries) (length l.entries) l.e-index
