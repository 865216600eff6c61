-- `form::step::number_for` meets its contract: each `return` is one of the definition's cases.
use borrow.Author.Tests.{ne_eqb, eq-eqb, lt-ltb, le-ltb}
use Rattle.form.specs.step.Reader.{number_for}
use borrow.Author.Rules.{rules}
use Rattle.form.proofs.step.number_for.Statement.{statement}
use Rattle.form.proofs.step.number_for.Tie as tie

returns : tie.Need-returns-then-kind-ne6
unfolding number_for
returns c = rw (ne_eqb _ _ c.if-kind-ne6.true)

returns-2 : tie.Need-returns-then-r-lt5
unfolding number_for
returns-2 c = rw (eq-eqb _ _ c.if-kind-ne6.false, lt-ltb _ _ c.if-r-lt5.true)

returns-3 : tie.Need-returns
unfolding number_for
returns-3 c = rw (eq-eqb _ _ c.if-kind-ne6.false, le-ltb _ _ c.if-r-lt5.false)

pub number_for_spec : {M : Type 1} → statement M
number_for_spec = tie.close (tie.spec (λ c. search rules) returns (λ c. search rules) returns-2 (λ c. search rules) returns-3)
