-- `queries::all_neighbours::nothing_lent` meets its contract: the tests are those of the definition.
use Rattle.queries.specs.all_neighbours.laws.Lent.{some_offsets, no_offsets}
use Rattle.queries.proofs.all_neighbours.nothing_lent.Statement.{statement}
use Rattle.queries.proofs.all_neighbours.nothing_lent.Tie as tie

returns : tie.Need-returns-then-offsets-ne0
returns c = some_offsets c.args.offsets c.args.indexes c.if-offsets-ne0.true

returns-2 : tie.Need-returns
returns-2 c = no_offsets c.args.offsets c.args.indexes c.if-offsets-ne0.false

pub nothing_lent_spec : {M : Type 1} → statement M
nothing_lent_spec = tie.close (tie.spec returns returns-2)
