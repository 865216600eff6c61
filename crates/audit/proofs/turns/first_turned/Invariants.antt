-- No triangle that was passed is turned.
use Rattle.std.proofs.Common.{◌/◌, length}
use Rattle.ring_area.specs.lowest.laws.Loops.{NoneTo}
use Rattle.audit.specs.turns.Turned.{turned_at}
use Rattle.audit.proofs.turns.first_turned.Given as goal

abbrev pub invariant-loop-t : goal.invariant-loop-t
invariant-loop-t l = NoneTo (turned_at l.sites l.triangles) (length l.triangles / 3) l.t
