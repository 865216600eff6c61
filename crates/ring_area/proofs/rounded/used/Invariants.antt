-- The limbs from i on are 0.
use Rattle.ring_area.specs.rounded.laws.Limbs.{Clear}
use Rattle.ring_area.proofs.rounded.used.Given as goal

abbrev pub invariant-loop-i : goal.invariant-loop-i
invariant-loop-i l = Clear l.limbs l.i
