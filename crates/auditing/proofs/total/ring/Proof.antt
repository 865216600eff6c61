-- `auditing::total::ring` meets its contract: a ring of no corners adds nothing.
use Rattle.auditing.specs.total.laws.Sums.{ring_none}
use borrow.Author.Rules.{rules}
use Rattle.auditing.proofs.total.ring.Statement.{statement}
use Rattle.auditing.proofs.total.ring.Tie as tie

returns : tie.Need-returns-then-entries-eq0
returns c = ring_none _ _ _ _ c.if-entries-eq0.true

pub ring_spec : {M : Type 1} → statement M
ring_spec =
    tie.close
    (tie.spec returns (λ c κs. search rules) (λ c. search rules) (λ c. search rules) (λ c. search rules))
