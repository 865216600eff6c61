-- `form::put_link` meets its contract: the store is the definition's, at a place that the contract's bounds keep in range.
use borrow.Author.Tests.{ne_eqb, eq-eqb}
use Rattle.form.specs.step.Reader.{put_link}
use borrow.Author.Rules.{rules}
use Rattle.form.proofs.put_link.Statement.{statement}
use Rattle.form.proofs.put_link.Tie as tie

returns : tie.Need-returns-then-left-ne0
unfolding put_link
returns c = rw (ne_eqb _ _ c.if-left-ne0.true)

returns-2 : tie.Need-returns
unfolding put_link
returns-2 c = rw (eq-eqb _ _ c.if-left-ne0.false)

pub put_link_spec : {M : Type 1} → statement M
put_link_spec =
    tie.close
    (tie.spec returns (λ c. search rules) (λ c. search rules) (λ c. search rules) (λ c. search rules)
    (λ c. search rules) returns-2)
