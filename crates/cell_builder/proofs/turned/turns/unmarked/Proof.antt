-- `cell_builder::turned::turns::unmarked` meets its contract.
use mathlib.Core.Path.{refl}
use borrow.Author.Rules.{rules}
use Rattle.cell_builder.specs.turned.laws.Marking.{unmarked_says}
use Rattle.cell_builder.proofs.turned.turns.unmarked.Statement.{statement}
use Rattle.cell_builder.proofs.turned.turns.unmarked.Tie as tie

returns : tie.Need-returns
returns c = let a = c.args in unmarked_says a.marks.now a.e _ refl

pub unmarked_spec : {M : Type 1} → statement M
unmarked_spec = tie.close (tie.spec (λ c. search rules) returns)
