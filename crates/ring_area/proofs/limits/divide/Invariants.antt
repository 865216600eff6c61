-- The limbs from i on are divided, and what is left over goes to the next below.
use Rattle.ring_area.specs.limits.laws.Divisions.{Dividing}
use Rattle.ring_area.proofs.limits.divide.Given as goal

abbrev pub invariant-loop-i : goal.invariant-loop-i
invariant-loop-i l = Dividing l.fn.limbs l.limbs l.d l.rest l.i
