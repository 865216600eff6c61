-- `queries::bulk_neighbours::cells_lent` meets its contract: none are lent, or they are tried.
use mathlib.Core.Path.{sym, ◌∙◌}
use borrow.Author.Rules.{rules}
use Rattle.queries.specs.bulk_neighbours.laws.Answers.{none_lent, some_lent}
use Rattle.queries.proofs.bulk_neighbours.cells_lent.Statement.{statement}
use Rattle.queries.proofs.bulk_neighbours.cells_lent.Tie as tie

returns : tie.Need-returns-then-nothing_lent
returns c = none_lent _ _ _ (sym c.before.nothing_lent.ensures ∙ c.if-nothing_lent.true)

returns-2 : tie.Need-returns
returns-2 c = some_lent _ _ _ c.cells_ok.result (sym c.before.before.nothing_lent.ensures ∙ c.if-nothing_lent.false) c.cells_ok.ensures

pub cells_lent_spec : {M : Type 1} → statement M
cells_lent_spec = tie.close (tie.spec (λ c κs. search rules) returns (λ c κs. search rules) returns-2)
