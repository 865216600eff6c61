-- `certifying::call::judge` meets its contract: the rules are asked first.
use Rattle.certifying.specs.call.laws.Answers.{judge_safe}
use Rattle.std.proofs.Common.{refl}
use Rattle.certifying.proofs.call.judge.Goals as goal

pub verdict-requires : goal.verdict-requires
verdict-requires c =
    judge_safe c.args.given c.args.sites.now c.args.vertices.now c.args.offsets.now c.args.indexes.now c.args.bits c.args.work.now c.in_ok-ask.ensures refl c.requires
