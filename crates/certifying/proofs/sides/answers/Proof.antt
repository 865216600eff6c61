-- `certifying::sides::answers` meets its contract.
use mathlib.Core.Path.{sym, ◌∙◌}
use Rattle.ring_area.specs.lowest.laws.Loops.{no_both}
use borrow.Author.Rules.{rules}
use Rattle.certifying.proofs.sides.answers.Statement.{statement}
use Rattle.certifying.proofs.sides.answers.Tie as tie

returns : tie.Need-returns-then-runs
returns c = λ q. absurd (no_both (sym q))

returns-2 : tie.Need-returns
returns-2 c = let el = c in λ q. record { back = sym c.runs-2.ensures ∙ q; only = sym el.runs.ensures ∙ el.if-runs.false }

pub answers_spec : {M : Type 1} → statement M
answers_spec = tie.close (tie.spec (λ c κs. search rules) returns (λ c κs. search rules) returns-2)
