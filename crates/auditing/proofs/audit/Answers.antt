-- `auditing::audit` meets its contract: the answer's numbers.
use Rattle.auditing.specs.laws.Answers.{audited}
use Rattle.auditing.proofs.audit.Goals as goal

pub returns : goal.returns
returns c =
    audited c.args.given c.args.sites.now c.args.vertices.now c.args.offsets.now c.args.indexes.now c.args.starts.now c.args.others.now c.args.bits c.judge.result c.judge.ensures
    c.tell.ensures
