-- The invariant is that the bytes so far are written; each turn writes one more.
use Rattle.std.proofs.Common.{length, take}
use Rattle.octets.specs.laws.Wrote.{Lined}
use Rattle.octets.specs.hex.Hex.{hex}
use Rattle.octets.proofs.hex.put_hex.Given as goal

abbrev pub invariant-loop-byte : goal.invariant-loop-byte
invariant-loop-byte l = Lined (λ k. hex (take k l.fn.bytes)) (length l.fn.bytes) l.fn.out l.out l.fn.at l.end l.byte-index
