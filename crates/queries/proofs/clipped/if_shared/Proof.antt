-- The test on the two cells decides.
use borrow.Author.Rules.{rules}
use Rattle.queries.proofs.clipped.if_shared.Statement.{statement}
use Rattle.queries.proofs.clipped.if_shared.Tie as tie

returns : tie.Need-returns-then-share_edge
returns c = rw (← c.wide.ensures, ← c.wide-2.ensures, ← c.share_edge.ensures, c.if-share_edge.true)

returns-2 : tie.Need-returns
returns-2 c = rw (← c.wide.ensures, ← c.wide-2.ensures, ← c.share_edge.ensures, c.if-share_edge.false)

pub if_shared_spec : {M : Type 1} → statement M
if_shared_spec =
    tie.close (tie.spec (λ c κs. search rules) (λ c κs. search rules) (λ c κs. search rules) returns returns-2)
