-- `auditing::verdict` meets its contract: the limit, the total, the stages.
use Rattle.std.proofs.Common.{◌∙◌, sym, ap}
use Rattle.auditing.specs.limit.Limit.{box_twice}
use Rattle.auditing.specs.total.Total.{share_of}
use Rattle.auditing.specs.laws.Answers.{limit_of, verdict_is}
use Rattle.auditing.proofs.verdict.Goals as goal

pub returns-in-Ok : goal.returns-in-Ok
returns-in-Ok c =
    let q = limit_of c.args.bounds c.args.bits c.wide.ensures c.limit-limit.ensures in (
      verdict_is c.args.bounds c.args.sites.now c.args.vertices.now c.args.offsets.now c.args.indexes.now c.args.starts.now c.args.others.now c.args.bits
          (c.is_ok.ensures.value ∙ c.total-share.ensures.whole (box_twice c.args.bounds) c.args.bits q) (c.judge_rings-v.ensures (box_twice c.args.bounds) q),
      ap share_of (sym c.in-Ok.is) ∙ c.total-share.ensures.missing,
    )

pub returns-in-Err : goal.returns-in-Err
returns-in-Err c =
    let q = limit_of c.args.bounds c.args.bits c.wide.ensures c.limit-limit.ensures in (
      verdict_is c.args.bounds c.args.sites.now c.args.vertices.now c.args.offsets.now c.args.indexes.now c.args.starts.now c.args.others.now c.args.bits
          (c.is_ok.ensures.value ∙ c.total-share.ensures.whole (box_twice c.args.bounds) c.args.bits q) (c.judge_rings-v.ensures (box_twice c.args.bounds) q),
      ap share_of (sym c.in-Err.is) ∙ c.total-share.ensures.missing,
    )
