-- `reader::standing::count_at` meets its contract: each `return` is one of the definition's cases.
use borrow.Author.Tests.{lt-ltb, le-ltb, ne_eqb, eq-eqb}
use Rattle.reader.specs.standing.Stands.{count_at}
use Rattle.reader.proofs.standing.count_at.Statement.{statement}
use Rattle.reader.proofs.standing.count_at.Tie as tie

returns : tie.Need-returns-then-limit-n
unfolding count_at
returns c = rw (lt-ltb _ _ c.if-limit-n.true)

returns-2 : tie.Need-returns-then-stage-kind
unfolding count_at
returns-2 c = rw (le-ltb _ _ c.if-limit-n.false, lt-ltb _ _ c.if-stage-kind.true)

returns-3 : tie.Need-returns-then-stage-kind-2
unfolding count_at
returns-3 c = rw (le-ltb _ _ c.if-limit-n.false, le-ltb _ _ c.if-stage-kind.false, eq-eqb _ _ c.if-stage-kind-2.true)

returns-4 : tie.Need-returns
unfolding count_at
returns-4 c = rw (le-ltb _ _ c.if-limit-n.false, le-ltb _ _ c.if-stage-kind.false, ne_eqb _ _ c.if-stage-kind-2.false)

pub count_at_spec : {M : Type 1} → statement M
count_at_spec = tie.close (tie.spec returns returns-2 returns-3 returns-4)
