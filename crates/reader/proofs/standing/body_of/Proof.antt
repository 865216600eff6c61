-- `reader::standing::body_of` meets its contract: each `return` is one of the definition's cases.
use borrow.Author.Tests.{ne_eqb}
use Rattle.form.specs.step.Standing.{body_of}
use borrow.Author.Rules.{rules}
use Rattle.reader.proofs.standing.body_of.Statement.{statement}
use Rattle.reader.proofs.standing.body_of.Tie as tie

returns : tie.Need-returns-then-r-eq1
unfolding body_of
returns c = rw c.if-r-eq1.true c.size.ensures

returns-2 : tie.Need-returns
unfolding body_of
returns-2 c = rw (ne_eqb _ _ c.if-r-eq1.false) c.size-2.ensures

pub body_of_spec : {M : Type 1} → statement M
body_of_spec =
    tie.close
    (tie.spec (λ c κs. search rules) returns (λ c κs. search rules) returns-2)
