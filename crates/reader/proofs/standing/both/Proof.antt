-- `reader::standing::both` meets its contract: each `return` is one of the definition's cases.
use Rattle.reader.proofs.standing.both.Statement.{statement}
use Rattle.reader.proofs.standing.both.Tie as tie

returns : tie.Need-returns-then-a
returns c = rw c.if-a.true

returns-2 : tie.Need-returns
returns-2 c = rw c.if-a.false

pub both_spec : {M : Type 1} → statement M
both_spec = tie.close (tie.spec returns returns-2)
