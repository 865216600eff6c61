-- The limbs that were passed are settled.
use Rattle.ring_area.specs.long.laws.Carries.{Carrying}
use Rattle.ring_area.proofs.long.carry.Given as goal

abbrev pub invariant-loop-limb : goal.invariant-loop-limb
invariant-loop-limb l = Carrying l.fn.limbs l.limbs l.c l.limb-index
