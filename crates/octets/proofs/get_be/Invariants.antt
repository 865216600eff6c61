-- The invariant is `Climbing`, which each byte carries one further.
use Rattle.octets.specs.laws.Get.{Climbing}
use Rattle.octets.proofs.get_be.Given as goal

abbrev pub invariant-loop-i : goal.invariant-loop-i
invariant-loop-i l = Climbing l.bytes l.at l.n l.x l.i
