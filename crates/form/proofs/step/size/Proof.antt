-- `form::step::size` meets its contract: at each `return` the kind is known, and the definition computes.
use Rattle.form.specs.step.Reader.{size_of}
use borrow.Author.Tests.{ne_eqb}
use Rattle.form.proofs.step.size.Statement.{statement}
use Rattle.form.proofs.step.size.Tie as tie

returns : tie.Need-returns-then-kind-eq1
unfolding size_of
returns c = rw c.if-kind-eq1.true

returns-2 : tie.Need-returns-then-kind-eq2
unfolding size_of
returns-2 c = rw c.if-kind-eq2.true

returns-3 : tie.Need-returns-then-kind-eq3
unfolding size_of
returns-3 c = rw c.if-kind-eq3.true

returns-4 : tie.Need-returns-then-kind-eq4
unfolding size_of
returns-4 c = rw c.if-kind-eq4.true

returns-5 : tie.Need-returns-then-kind-eq7
unfolding size_of
returns-5 c = rw c.if-kind-eq7.true

returns-6 : tie.Need-returns
unfolding size_of
returns-6 c =
    let at-if1 = c in
    rw (ne_eqb _ _ at-if1.if-kind-eq1.false, ne_eqb _ _ c.if-kind-eq2.false, ne_eqb _ _ c.if-kind-eq3.false, ne_eqb _ _ c.if-kind-eq4.false, ne_eqb _ _ c.if-kind-eq7.false)

pub size_spec : {M : Type 1} → statement M
size_spec = tie.close (tie.spec returns returns-2 returns-3 returns-4 returns-5 returns-6)
