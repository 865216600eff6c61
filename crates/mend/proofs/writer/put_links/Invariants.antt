-- The invariant is that the numbers so far are written; each turn writes one more.
use lib.ListN.{length, take}
use Rattle.octets.specs.laws.Wrote.{Lined}
use Rattle.mend.specs.writer.Written.{links}
use Rattle.mend.proofs.writer.put_links.Given as goal

abbrev pub invariant-loop-n : goal.invariant-loop-n
invariant-loop-n l = Lined (λ k. links (take k l.numbers)) (length l.numbers) l.fn.out l.out l.at l.end l.n-index
