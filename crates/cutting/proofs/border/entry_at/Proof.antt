-- `cutting::border::entry_at`: past the end it is 0.
use mathlib.Core.Path.{sym}
use native.Mathlib.Omega.{arith}
use lib.ListN.{get_or-eq_default}
use borrow.Author.Rules.{rules}
use Rattle.cutting.proofs.border.entry_at.Statement.{statement}
use Rattle.cutting.proofs.border.entry_at.Tie as tie

returns-2 : tie.Need-returns
returns-2 c = sym (get_or-eq_default c.args.list.now 0 {n = c.args.k} (omega (arith, c.if-k-list.false)))

pub entry_at_spec : {M : Type 1} → statement M
entry_at_spec = tie.close (tie.spec (λ c. search rules) (λ c. search rules) (λ c. search rules) returns-2)
