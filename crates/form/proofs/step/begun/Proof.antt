-- `form::step::begun` meets its contract, field by field; a kind that opens a form stands where a box would.
use mathlib.Core.Path.{sym, ◌∙◌}
use native.Mathlib.Omega.{arith}
use Rattle.form.specs.step.Reader.{begun}
use Rattle.form.specs.step.laws.Standing.{at_small}
use borrow.Author.Rules.{rules}
use Rattle.form.proofs.step.begun.Statement.{statement}
use Rattle.form.proofs.step.begun.Tie as tie

returns : tie.Need-returns-then-opens
unfolding begun
returns c = rw (c.size.ensures, sym c.opens.ensures ∙ c.if-opens.true)

returns-2 : tie.Need-returns
unfolding begun
returns-2 c = rw (c.size.ensures, sym c.opens.ensures ∙ c.if-opens.false)

pub begun_spec : {M : Type 1} → statement M
begun_spec = tie.close (tie.spec (λ c κs. search rules) (λ c. omega (arith, at_small c.before.before.requires)) (λ c κs. search rules) returns returns-2)
