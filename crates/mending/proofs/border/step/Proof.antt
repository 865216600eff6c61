-- The two answers are the cases of `step_of`.
use mathlib.Core.Path.{sym}
use Rattle.mending.specs.border.laws.Tracing.{step_closed, step_open}
use borrow.Author.Rules.{rules}
use Rattle.mending.proofs.border.step.Statement.{statement}
use Rattle.mending.proofs.border.step.Tie as tie

returns : tie.Need-returns-then-next-begin
returns c = sym (step_closed _ _ _ c.if-next-begin.true)

returns-2 : tie.Need-returns
returns-2 c = sym (step_open _ _ _ c.if-next-begin.false)

pub step_spec : {M : Type 1} → statement M
step_spec =
    tie.close
    (tie.spec (λ c. search rules) (λ c. search rules) returns returns-2)
