-- `form::put_float` meets its contract: the store is the definition's, at a place that the contract's bounds keep in range.
use borrow.Author.Tests.{ne_eqb, eq-eqb}
use Rattle.form.specs.step.Reader.{put_float}
use borrow.Author.Rules.{rules}
use Rattle.form.proofs.put_float.Statement.{statement}
use Rattle.form.proofs.put_float.Tie as tie

returns : tie.Need-returns-then-left-ne0
unfolding put_float
returns c = rw (ne_eqb _ _ c.if-left-ne0.true)

returns-2 : tie.Need-returns
unfolding put_float
returns-2 c = rw (eq-eqb _ _ c.if-left-ne0.false, c.float_of.ensures)

pub put_float_spec : {M : Type 1} → statement M
put_float_spec =
    tie.close (tie.spec returns (λ c κs. search rules) (λ c. search rules) (λ c. search rules) (λ c. search rules)
    (λ c. search rules) returns-2)
