-- The invariant is that the entries so far are written; each turn writes one more.
use lib.ListN.{length, take}
use Rattle.printing.specs.parts.Labelled.{entries}
use Rattle.octets.specs.laws.Wrote.{Lined}
use Rattle.cells.proofs.listing.entries.Given as goal

abbrev pub invariant-loop-n : goal.invariant-loop-n
invariant-loop-n l = Lined (λ k. entries (take k l.list)) (length l.list) l.fn.out l.out l.at l.end l.n-index
