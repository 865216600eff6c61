-- The two cases of the test.
use borrow.Author.Rules.{rules}
use Rattle.grid.proofs.border.counted.Statement.{statement}
use Rattle.grid.proofs.border.counted.Tie as tie

returns : tie.Need-returns-then-start
returns c = rw c.if-start.true

returns-2 : tie.Need-returns
returns-2 c = rw c.if-start.false

pub counted_spec : {M : Type 1} → statement M
counted_spec = tie.close (tie.spec (λ c. search rules) returns returns-2)
