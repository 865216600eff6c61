-- The invariant is `Spelling`, which each byte carries one further.
use Rattle.octets.specs.laws.PutLe.{Spelling}
use Rattle.octets.proofs.put_le.Given as goal

abbrev pub invariant-loop-i : goal.invariant-loop-i
invariant-loop-i l = Spelling l.fn.out l.out l.fn.at l.fn.n l.fn.x l.i l.rest
