-- `form::step::tally` meets its contract: one more exactly where the stage is this kind's and one byte is left.
use borrow.Author.Tests.{ne_eqb, eq-eqb}
use Rattle.form.specs.step.Reader.{tally}
use borrow.Author.Rules.{rules}
use Rattle.form.proofs.step.tally.Statement.{statement}
use Rattle.form.proofs.step.tally.Tie as tie

returns : tie.Need-returns-then-r-kind
unfolding tally
returns c = rw (ne_eqb _ _ c.if-r-kind.true)

returns-2 : tie.Need-returns-then-r-ne1
unfolding tally
returns-2 c = rw (eq-eqb _ _ c.if-r-kind.false, ne_eqb _ _ c.if-r-ne1.true)

returns-3 : tie.Need-returns
unfolding tally
returns-3 c = rw (eq-eqb _ _ c.if-r-kind.false, c.if-r-ne1.false)

pub tally_spec : {M : Type 1} → statement M
tally_spec = tie.close (tie.spec returns returns-2 (λ c. search rules) returns-3)
