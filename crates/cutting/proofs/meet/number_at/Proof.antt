-- `cutting::meet::number_at`: past the end it is a NaN, as 0 / 0 is.
use mathlib.Core.Path.{sym, ◌∙◌}
use native.Mathlib.Omega.{arith}
use lib.Ieee.{nan}
use lib.ListN.{get_or-eq_default}
use borrow.Author.Rules.{rules}
use Rattle.root.specs.laws.Signs.{no_quotient}
use Rattle.cutting.proofs.meet.number_at.Statement.{statement}
use Rattle.cutting.proofs.meet.number_at.Tie as tie

returns-2 : tie.Need-returns
returns-2 c = no_quotient ∙ sym (get_or-eq_default c.args.list.now nan {n = c.args.k} (omega (arith, c.if-k-list.false)))

pub number_at_spec : {M : Type 1} → statement M
number_at_spec = tie.close (tie.spec (λ c. search rules) (λ c. search rules) (λ c. search rules) returns-2)
