-- The invariant is `Putting`, which each byte carries one further.
use Rattle.octets.specs.laws.Wrote.{Putting}
use Rattle.octets.proofs.put.Given as goal

abbrev pub invariant-loop-i : goal.invariant-loop-i
invariant-loop-i l = Putting l.fn.out l.out l.fn.at l.fn.text l.i
