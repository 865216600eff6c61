-- `auditing::total::total` meets its contract: the sums from nothing, settled; their difference, over the box.
use Rattle.std.proofs.Common.{sym, ◌∙◌}
use Rattle.auditing.specs.total.laws.Sums.{open_nothing, total_fits, missing_is, whole_is}
use Rattle.auditing.proofs.total.total.Goals as goal

pub sums-requires : goal.sums-requires
sums-requires c = (c.requires.0, c.requires.2, open_nothing, open_nothing)

pub carry-requires : goal.carry-requires
carry-requires c = (total_fits c.requires.0 c.requires.2 c.requires.3 c.sums.ensures).0.room

pub carry-requires-2 : goal.carry-requires-2
carry-requires-2 c = (total_fits c.requires.0 c.requires.2 c.requires.3 c.sums.ensures).1.room

pub returns-then-within-clause-missing : goal.returns-then-within-clause-missing
returns-then-within-clause-missing c =
    missing_is c.requires.0 c.requires.2 c.requires.3 c.sums.ensures c.carry.ensures c.carry-2.ensures c.rounded_difference.ensures c.box_area.ensures

pub returns-then-within-clause-whole : goal.returns-then-within-clause-whole
returns-then-within-clause-whole c box bits q =
    sym c.if-within.true ∙ whole_is c.requires.0 c.requires.2 c.requires.3 c.sums.ensures c.carry.ensures c.carry-2.ensures box bits (c.within.ensures box bits q)

pub returns-else-within-clause-missing : goal.returns-else-within-clause-missing
returns-else-within-clause-missing c =
    missing_is c.requires.0 c.requires.2 c.requires.3 c.sums.ensures c.carry.ensures c.carry-2.ensures c.rounded_difference.ensures c.box_area.ensures

pub returns-else-within-clause-whole : goal.returns-else-within-clause-whole
returns-else-within-clause-whole c box bits q =
    sym c.if-within.false ∙ whole_is c.requires.0 c.requires.2 c.requires.3 c.sums.ensures c.carry.ensures c.carry-2.ensures box bits (c.within.ensures box bits q)
