-- `form::step::room_for` meets its contract: at each `return` the kind is known, and the test is the definition's.
use Rattle.form.specs.step.Reader.{room_left}
use borrow.Author.Tests.{ne_eqb}
use Rattle.form.proofs.step.room_for.Statement.{statement}
use Rattle.form.proofs.step.room_for.Tie as tie

returns : tie.Need-returns-then-kind-eq2
unfolding room_left
returns c = rw c.if-kind-eq2.true

returns-2 : tie.Need-returns-then-kind-eq3
unfolding room_left
returns-2 c = rw c.if-kind-eq3.true

returns-3 : tie.Need-returns-then-kind-eq4
unfolding room_left
returns-3 c = rw c.if-kind-eq4.true

returns-4 : tie.Need-returns-then-kind-eq5
unfolding room_left
returns-4 c = rw c.if-kind-eq5.true

returns-5 : tie.Need-returns
unfolding room_left
returns-5 c = rw (ne_eqb _ _ c.if-kind-eq2.false, ne_eqb _ _ c.if-kind-eq3.false, ne_eqb _ _ c.if-kind-eq4.false, ne_eqb _ _ c.if-kind-eq5.false)

pub room_for_spec : {M : Type 1} → statement M
room_for_spec = tie.close (tie.spec returns returns-2 returns-3 returns-4 returns-5)
