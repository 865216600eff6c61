-- By its number.
use borrow.Author.Tests.{eq-eqb, ne_eqb}
use Rattle.reasons.specs.Reason.{of_fault}
use Rattle.reasons.proofs.of_fault.Statement.{statement}
use Rattle.reasons.proofs.of_fault.Tie as tie

returns : tie.Need-returns-then-f-eq0
unfolding of_fault
returns c = rw (eq-eqb _ _ c.if-f-eq0.true)

returns-2 : tie.Need-returns-then-f-eq-REFUSED_CIRCUMCENTER
unfolding of_fault
returns-2 c = rw (ne_eqb _ _ c.if-f-eq0.false, eq-eqb _ _ c.if-f-eq-REFUSED_CIRCUMCENTER.true)

returns-3 : tie.Need-returns-then-f-eq-REFUSED_EXTENSION
unfolding of_fault
returns-3 c = rw (ne_eqb _ _ c.if-f-eq0.false, ne_eqb _ _ c.if-f-eq-REFUSED_CIRCUMCENTER.false, eq-eqb _ _ c.if-f-eq-REFUSED_EXTENSION.true)

returns-4 : tie.Need-returns
unfolding of_fault
returns-4 c = rw (ne_eqb _ _ c.if-f-eq0.false, ne_eqb _ _ c.if-f-eq-REFUSED_CIRCUMCENTER.false, ne_eqb _ _ c.if-f-eq-REFUSED_EXTENSION.false)

pub of_fault_spec : {M : Type 1} → statement M
of_fault_spec = tie.close (tie.spec returns returns-2 returns-3 returns-4)
