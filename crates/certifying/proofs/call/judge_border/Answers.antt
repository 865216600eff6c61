-- `certifying::call::judge_border` meets its contract: the third fault is told, or the fourth is asked for.
use Rattle.std.proofs.Common.{ap, not, refl}
use Rattle.certifying.specs.call.laws.Stages.{border_named, border_after}
use Rattle.certifying.proofs.call.judge_border.Goals as goal

pub returns-then-not-left_once : goal.returns-then-not-left_once
returns-then-not-left_once c = (
  border_named c.args.bounds c.args.bits c.args.sites.now c.args.vertices.now c.args.offsets.now c.args.indexes.now c.requires.1 c.left_once.ensures
      (ap not c.if-not-left_once.true),
  refl,
)

pub returns : goal.returns
returns c = (
  border_after c.args.bounds c.args.bits c.args.sites.now c.args.vertices.now c.args.offsets.now c.args.indexes.now c.requires.1 c.left_once.ensures
      (ap not c.if-not-left_once.false) c.judge_nearer.ensures.0,
  c.judge_nearer.ensures.1,
)
