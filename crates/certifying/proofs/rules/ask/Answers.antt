-- `certifying::rules::ask` meets its contract: 1 and 2, then the audit's rules over no lists.
use Rattle.std.proofs.Common.{not, ap}
use Rattle.base.specs.common.laws.Decide.{refused, granted}
use Rattle.certifying.specs.rules.laws.Asking.{no_counts, no_room, by_audit}
use Rattle.certifying.proofs.rules.ask.Goals as goal

pub returns-then-not-counts_ok : goal.returns-then-not-counts_ok
returns-then-not-counts_ok c = no_counts (refused c.counts_ok.result (ap not c.if-not-counts_ok.true) c.counts_ok.ensures)

pub room_for-requires : goal.room_for-requires
room_for-requires c = let k = granted c.counts_ok.result (ap not c.if-not-counts_ok.false) c.counts_ok.ensures in (k.few_sites, k.few_entries)

pub returns-then-work-room_for : goal.returns-then-work-room_for
returns-then-work-room_for c =
    no_room (granted c.counts_ok.result (ap not c.if-not-counts_ok.false) c.counts_ok.ensures) c.room_for.ensures c.if-work-room_for.true

pub returns : goal.returns
returns c =
    by_audit (granted c.counts_ok.result (ap not c.if-not-counts_ok.false) c.counts_ok.ensures) c.room_for.ensures c.if-work-room_for.false
    c.no_others-none.ensures c.no_others-none.ensures c.ask.ensures
