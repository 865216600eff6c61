-- The limbs that were passed are 0.
use Rattle.ring_area.specs.long.Amount.{lifted}
use Rattle.ring_area.specs.rounded.laws.Limbs.{ClearTo}
use Rattle.ring_area.proofs.rounded.none_below.Given as goal

abbrev pub invariant-loop-i : goal.invariant-loop-i
invariant-loop-i l = ClearTo (lifted l.from l.limbs) l.i
