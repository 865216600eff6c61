-- The second list of changes starts where the first ends.
use Rattle.std.proofs.Common.{arith}
use Rattle.mending.specs.changes.Changes.{longer}
use Rattle.mending.specs.changes.laws.Listing.{changes_few}
use Rattle.mending.specs.slices.laws.Filled.{listed}
use Rattle.mending.proofs.slices.list_both.Goals as goal

pub list_changes-then-requires : goal.list_changes-then-requires
list_changes-then-requires c =
    let f = changes_few c.args.old.now c.args.new.now (longer c.args.old.now c.args.new.now) in
    (c.requires.1, omega (arith, c.requires.2, c.clear.auto.work, c.list_changes-first.auto.changes, c.list_changes-first.ensures.0))

pub returns : goal.returns
returns c = listed _ _ _ _ _ _ _ _ _ _ c.clear.ensures c.clear.auto.work c.requires.2 c.list_changes-first.ensures c.list_changes-then.ensures
