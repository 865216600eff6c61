-- The invariant is that the bytes so far stand in the slice; each turn puts in one more.
use Rattle.octets.specs.hex.laws.Unhex.{Unhexing}
use Rattle.octets.proofs.hex.get_hex.Given as goal

abbrev pub invariant-loop-i : goal.invariant-loop-i
invariant-loop-i l = Unhexing l.text l.fn.out l.out l.i
