-- `reader::answers::reported` meets its contract: no number is large, so that nothing of them is lost.
use native.Mathlib.Omega.{arith}
use borrow.Author.Tests.{ne_eqb, eq-eqb}
use Rattle.form.specs.step.laws.Standing.{clip_small, few_counts, refusal_small}
use Rattle.reader.specs.answers.Answers.{report_of}
use Rattle.reader.proofs.answers.reported.Statement.{statement}
use Rattle.reader.proofs.answers.reported.Tie as tie

returns : tie.Need-returns-then-r-eq0
unfolding report_of
returns c = rw (eq-eqb _ _ c.if-r-eq0.true)

returns-2 : tie.Need-returns
unfolding report_of
returns-2 c = rw (ne_eqb _ _ c.if-r-eq0.false)

pub reported_spec : {M : Type 1} → statement M
reported_spec =
    tie.close
    (tie.spec (λ c. omega (arith, clip_small c.before.before.before.requires)) (λ c. let n = few_counts c.before.before.before.before.requires in omega arith)
    (λ c. let n = few_counts c.before.before.before.before.before.requires in omega arith) (λ c. let n = few_counts c.before.before.before.before.before.before.requires in omega arith) returns
    (λ c. omega (arith, refusal_small c.before.before.before.requires)) returns-2)
