-- `form::step::opens` meets its contract: 1 opens, 6 where the flag says so, and else the test is the definition's.
use Rattle.form.specs.step.Reader.{opens}
use borrow.Author.Tests.{ne_eqb}
use Rattle.form.proofs.step.opens.Statement.{statement}
use Rattle.form.proofs.step.opens.Tie as tie

returns : tie.Need-returns-then-kind-eq1
unfolding opens
returns c = rw c.if-kind-eq1.true

returns-2 : tie.Need-returns-then-kind-eq6
unfolding opens
returns-2 c = rw c.if-kind-eq6.true

returns-3 : tie.Need-returns
unfolding opens
returns-3 c = rw (ne_eqb _ _ c.if-kind-eq1.false, ne_eqb _ _ c.if-kind-eq6.false)

pub opens_spec : {M : Type 1} → statement M
opens_spec = tie.close (tie.spec returns returns-2 returns-3)
