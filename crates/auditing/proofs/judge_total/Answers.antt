-- `auditing::judge_total` meets its contract.
use Rattle.std.proofs.Common.{ap, not}
use Rattle.auditing.specs.laws.Stages.{total_told, total_after}
use Rattle.auditing.proofs.judge_total.Goals as goal

pub returns-then-not-whole : goal.returns-then-not-whole
returns-then-not-whole c = total_told c.args.whole c.args.sites.now (ap not c.if-not-whole.true)

pub returns : goal.returns
returns c = total_after c.args.whole c.args.sites.now (ap not c.if-not-whole.false) c.judge_places.ensures
