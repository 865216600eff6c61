-- The invariant is that the bytes from the last to this one are written; each turn writes one more.
use Rattle.std.proofs.Common.{◌-◌, length, take, reverse}
use Rattle.octets.specs.laws.Wrote.{Lined}
use Rattle.octets.specs.hex.Hex.{hex}
use Rattle.octets.proofs.hex.put_turned.Given as goal

abbrev pub invariant-loop-i : goal.invariant-loop-i
invariant-loop-i l = Lined (λ k. hex (take k (reverse l.fn.bytes))) (length (reverse l.fn.bytes)) l.fn.out l.out l.fn.at l.end (length l.fn.bytes - l.i)
