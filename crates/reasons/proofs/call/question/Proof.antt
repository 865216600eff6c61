-- By what is asked.
use borrow.Author.Tests.{eq-eqb, ne_eqb}
use Rattle.reasons.specs.call.Call.{question_of}
use Rattle.reasons.proofs.call.question.Statement.{statement}
use Rattle.reasons.proofs.call.question.Tie as tie

returns : tie.Need-returns-then-asked-eq0
unfolding question_of
returns c = rw (eq-eqb _ _ c.if-asked-eq0.true)

returns-2 : tie.Need-returns-then-asked-eq1
unfolding question_of
returns-2 c = rw (ne_eqb _ _ c.if-asked-eq0.false, eq-eqb _ _ c.if-asked-eq1.true)

returns-3 : tie.Need-returns
unfolding question_of
returns-3 c = rw (ne_eqb _ _ c.if-asked-eq0.false, ne_eqb _ _ c.if-asked-eq1.false)

pub question_spec : {M : Type 1} → statement M
question_spec = tie.close (tie.spec returns returns-2 returns-3)
