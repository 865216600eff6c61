-- `certifying::call::judge_chained` meets its contract: the second fault is named, or the third is asked for.
use Rattle.std.proofs.Common.{refl}
use Rattle.certifying.specs.call.laws.Stages.{side_named, side_after}
use Rattle.certifying.proofs.call.judge_chained.Goals as goal

pub returns-then-e-count : goal.returns-then-e-count
returns-then-e-count c = (
  side_named c.args.bounds c.args.bits c.args.sites.now c.args.vertices.now c.args.offsets.now c.args.indexes.now c.requires.1 c.first_surplus-e.ensures
      c.if-e-count.true c.name_side.ensures,
  refl,
)

pub returns : goal.returns
returns c = (
  side_after c.args.bounds c.args.bits c.args.sites.now c.args.vertices.now c.args.offsets.now c.args.indexes.now c.requires.1 c.first_surplus-e.ensures
      c.if-e-count.false c.judge_border.ensures.0,
  c.judge_border.ensures.1,
)
