-- `reader::answers::answered` meets its contract: the number is small, so that nothing of it is lost.
use native.Mathlib.Omega.{arith}
use borrow.Author.Tests.{ne_eqb, eq-eqb}
use Rattle.form.specs.step.laws.Standing.{refusal_small}
use Rattle.reader.specs.answers.Answers.{answer_of}
use Rattle.reader.proofs.answers.answered.Statement.{statement}
use Rattle.reader.proofs.answers.answered.Tie as tie

returns : tie.Need-returns-then-r-ne0
unfolding answer_of
returns c = rw (ne_eqb _ _ c.if-r-ne0.true)

returns-2 : tie.Need-returns
unfolding answer_of
returns-2 c = rw (eq-eqb _ _ c.if-r-ne0.false)

pub answered_spec : {M : Type 1} → statement M
answered_spec =
    tie.close
    (tie.spec (λ c. omega (arith, refusal_small c.before.before.before.requires)) returns returns-2)
