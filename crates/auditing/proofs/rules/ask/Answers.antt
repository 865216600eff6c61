-- `auditing::rules::ask` meets its contract: each rule is tried where those before it hold.
use Rattle.std.proofs.Common.{ap, not, refl}
use Rattle.base.specs.common.laws.Decide.{refused, granted}
use Rattle.auditing.specs.rules.laws.Asking.{no_starts, by_entries}
use Rattle.auditing.proofs.rules.ask.Goals as goal

pub returns-then-not-lists_ok : goal.returns-then-not-lists_ok
returns-then-not-lists_ok c =
    no_starts c.args.sound c.args.sites.now c.args.vertices.now c.args.offsets.now c.args.indexes.now c.args.starts.now c.args.others.now c.args.bits c.in_ok-ask_given.ensures refl
    (granted c.cells_ok.result (ap not c.if-not-cells_ok.false) c.cells_ok.ensures) (refused c.lists_ok.result (ap not c.if-not-lists_ok.true) c.lists_ok.ensures)

pub returns : goal.returns
returns c =
    by_entries c.args.sound c.args.sites.now c.args.vertices.now c.args.offsets.now c.args.indexes.now c.args.starts.now c.args.others.now c.args.bits c.in_ok-ask_given.ensures refl
    (granted c.cells_ok.result (ap not c.if-not-cells_ok.false) c.cells_ok.ensures) (granted c.lists_ok.result (ap not c.if-not-lists_ok.false) c.lists_ok.ensures) c.used.ensures
    c.held.ensures c.ask_entries.ensures
