-- `form::step::finished` meets its contract: each `return` is one of the definition's cases.
use borrow.Author.Tests.{ne_eqb, eq-eqb}
use Rattle.form.specs.step.Reader.{finished}
use borrow.Author.Rules.{rules}
use Rattle.form.proofs.step.finished.Statement.{statement}
use Rattle.form.proofs.step.finished.Tie as tie

returns : tie.Need-returns-then-r-ne0
unfolding finished
returns c = rw (ne_eqb _ _ c.if-r-ne0.true)

returns-2 : tie.Need-returns-then-r-eq5
unfolding finished
returns-2 c = rw (eq-eqb _ _ c.if-r-ne0.false, c.if-r-eq5.true)

returns-3 : tie.Need-returns
unfolding finished
returns-3 c = rw (eq-eqb _ _ c.if-r-ne0.false, ne_eqb _ _ c.if-r-eq5.false) c.refused.ensures

pub finished_spec : {M : Type 1} → statement M
finished_spec = tie.close (tie.spec returns returns-2 (λ c. search rules) (λ c κs. search rules) returns-3)
