-- `reader::standing::valid_kind` meets its contract: each `return` is one of the definition's cases.
use borrow.Author.Tests.{ne_eqb}
use Rattle.reader.specs.standing.Stands.{valid_kind}
use borrow.Author.Rules.{rules}
use Rattle.reader.proofs.standing.valid_kind.Statement.{statement}
use Rattle.reader.proofs.standing.valid_kind.Tie as tie

returns : tie.Need-returns-then-stage-eq0
unfolding valid_kind
returns c = rw c.if-stage-eq0.true

returns-2 : tie.Need-returns
unfolding valid_kind
returns-2 c = rw (ne_eqb _ _ c.if-stage-eq0.false) c.opens.ensures

pub valid_kind_spec : {M : Type 1} → statement M
valid_kind_spec = tie.close (tie.spec returns (λ c κs. search rules) returns-2)
