-- The count of the triangles that were passed.
use Rattle.std.proofs.Common.{◌/◌, length}
use Rattle.audit.specs.turns.laws.Turns.{CountedTo}
use Rattle.audit.proofs.turns.count_turned.Given as goal

abbrev pub invariant-loop-t : goal.invariant-loop-t
invariant-loop-t l = CountedTo l.sites l.triangles (length l.triangles / 3) l.t l.count
