-- The invariant is `Falling`, which each byte carries one further.
use Rattle.octets.specs.laws.Get.{Falling}
use Rattle.octets.proofs.get_le.Given as goal

abbrev pub invariant-loop-i : goal.invariant-loop-i
invariant-loop-i l = Falling l.bytes l.at l.n l.x l.i
