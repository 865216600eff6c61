-- `auditing::judge_outside` meets its contract.
use Rattle.std.proofs.Common.{arith}
use Rattle.auditing.specs.laws.Stages.{outside_stage_lem, outside_taken, outside_after}
use Rattle.auditing.proofs.judge_outside.Goals as goal

pub name_outside-requires : goal.name_outside-requires
name_outside-requires c = record {
  cut = c.requires.rings.cut;
  named = c.requires.rings.named;
  own = omega (arith, c.if-s-sites.true, c.requires.pieces.cut.many);
  few = c.requires.many;
  outside = outside_taken c.args.whole c.args.bounds c.args.bits c.args.sites.now c.args.starts.now c.args.others.now c.args.vertices.now c.args.offsets.now c.args.indexes.now c.requires.pieces
      c.first_site_outside-s.ensures c.if-s-sites.true;
}

pub returns-then-s-sites : goal.returns-then-s-sites
returns-then-s-sites c =
    outside_stage_lem c.args.whole c.args.bounds c.args.bits c.args.sites.now c.args.starts.now c.args.others.now c.args.vertices.now c.args.offsets.now c.args.indexes.now c.requires.pieces
    c.first_site_outside-s.ensures c.if-s-sites.true c.name_outside.ensures

pub returns : goal.returns
returns c =
    outside_after c.args.whole c.args.bounds c.args.bits c.args.sites.now c.args.starts.now c.args.others.now c.args.vertices.now c.args.offsets.now c.args.indexes.now c.requires.pieces
    c.first_site_outside-s.ensures c.broad.ensures c.far-far.ensures c.if-s-sites.false c.judge_nearer.ensures
