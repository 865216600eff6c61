-- After the corners before i, what is left is the ring from there back to its first corner.
use Rattle.std.proofs.Common.{length}
use Rattle.ring_area.specs.long.Amount.{lifted}
use Rattle.ring_area.specs.laws.Rings.{SidesTo}
use Rattle.ring_area.proofs.sides_from.Given as goal

abbrev pub invariant-loop-i : goal.invariant-loop-i
invariant-loop-i l = SidesTo l.from (length l.fn.plus) l.vertices l.entries (lifted l.from l.fn.plus) (lifted l.from l.plus) (lifted l.from l.fn.minus) (lifted l.from l.minus) l.first l.p l.i
