-- `certifying::call::certify` meets its contract: judged, or refused by the rules.
use Rattle.certifying.specs.call.laws.Answers.{told_certify, refused_judged}
use Rattle.certifying.proofs.call.certify.Goals as goal

pub returns-in-Ok : goal.returns-in-Ok
returns-in-Ok c =
    told_certify c.args.given c.args.sites.now c.args.vertices.now c.args.offsets.now c.args.indexes.now c.args.bits c.args.work.now c.in-Ok.verdict
    c.in-Ok.ensures c.clear.ensures c.tell.ensures

pub returns-in-Err : goal.returns-in-Err
returns-in-Err c =
    refused_judged c.args.given c.args.sites.now c.args.vertices.now c.args.offsets.now c.args.indexes.now c.args.bits c.args.work.now c.in-Err.refusal
    c.in-Err.ensures c.refuse.ensures
