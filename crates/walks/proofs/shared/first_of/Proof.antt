-- One test after the other.
use Rattle.walks.specs.shared.Edge.{first_of}
use borrow.Author.Rules.{rules}
use Rattle.walks.proofs.shared.first_of.Statement.{statement}
use Rattle.walks.proofs.shared.first_of.Tie as tie

returns : tie.Need-returns-then-zero
unfolding first_of
returns c = rw c.if-zero.true

returns-2 : tie.Need-returns-then-one
unfolding first_of
returns-2 c = rw (c.if-zero.false, c.if-one.true)

returns-3 : tie.Need-returns-then-two
unfolding first_of
returns-3 c = rw (c.if-zero.false, c.if-one.false, c.if-two.true)

returns-4 : tie.Need-returns
unfolding first_of
returns-4 c = rw (c.if-zero.false, c.if-one.false, c.if-two.false)

pub first_of_spec : {M : Type 1} → statement M
first_of_spec = tie.close (tie.spec returns (λ c. search rules) returns-2 (λ c. search rules) returns-3 returns-4)
