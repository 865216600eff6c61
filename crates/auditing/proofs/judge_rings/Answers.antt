-- `auditing::judge_rings` meets its contract.
use Rattle.auditing.specs.laws.Stages.{rings_stage_lem, rings_after}
use Rattle.auditing.proofs.judge_rings.Goals as goal

pub returns-then-s-sites : goal.returns-then-s-sites
returns-then-s-sites c box q =
    rings_stage_lem c.args.whole c.args.bounds c.args.bits c.args.sites.now c.args.starts.now c.args.others.now c.args.vertices.now c.args.offsets.now c.args.indexes.now
    c.requires.1.pieces box (c.first_folded-s.ensures box c.args.bits q) c.if-s-sites.true c.narrow.ensures

pub returns : goal.returns
returns c box q =
    rings_after c.args.whole c.args.bounds c.args.bits c.args.sites.now c.args.starts.now c.args.others.now c.args.vertices.now c.args.offsets.now c.args.indexes.now
    c.requires.1.pieces box (c.first_folded-s.ensures box c.args.bits q) c.if-s-sites.false c.judge_outside.ensures
