-- `auditing::judge` meets its contract: the rules, then the verdict.
use Rattle.std.proofs.Common.{refl}
use Rattle.base.specs.refusal.laws.Number.{handed_on}
use Rattle.auditing.specs.laws.Answers.{admitted}
use Rattle.auditing.proofs.judge.Goals as goal

pub verdict-requires : goal.verdict-requires
verdict-requires c =
    admitted c.args.given c.args.sites.now c.args.vertices.now c.args.offsets.now c.args.indexes.now c.args.starts.now c.args.others.now c.args.bits c.in_ok-ask.ensures refl c.requires

pub returns-in_err-ask : goal.returns-in_err-ask
returns-in_err-ask c = rw (handed_on c.from_residual.result _ c.from_residual.ensures.1) (record { number = c.in_err-ask.ensures; judged = tt })

pub returns : goal.returns
returns c = record { number = c.in_ok-ask.ensures; judged = c.verdict.ensures }
