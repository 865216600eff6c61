-- `auditing::judge_nearer` meets its contract.
use Rattle.auditing.specs.nearer.Nearer.{site_nearer}
use Rattle.auditing.specs.laws.Names.{taken}
use Rattle.auditing.specs.laws.Stages.{nearer_stage_lem, nearer_after}
use Rattle.auditing.proofs.judge_nearer.Goals as goal

pub name_nearer-requires : goal.name_nearer-requires
name_nearer-requires c = record {
  held = c.requires.0;
  pieces = c.requires.1;
  own = c.if-s-sites.true;
  few = c.requires.2;
  nearer = taken (site_nearer c.args.far c.args.sites.now c.args.starts.now c.args.others.now c.args.vertices.now c.args.offsets.now c.args.indexes.now) _ c.first_site_nearer-s.ensures
      c.if-s-sites.true;
}

pub returns-then-s-sites : goal.returns-then-s-sites
returns-then-s-sites c =
    nearer_stage_lem c.args.whole c.args.far c.args.sites.now c.args.starts.now c.args.others.now c.args.vertices.now c.args.offsets.now c.args.indexes.now
    c.first_site_nearer-s.ensures c.if-s-sites.true c.name_nearer.ensures

pub returns : goal.returns
returns c =
    nearer_after c.args.whole c.args.far c.args.sites.now c.args.starts.now c.args.others.now c.args.vertices.now c.args.offsets.now c.args.indexes.now
    c.first_site_nearer-s.ensures c.if-s-sites.false c.judge_total.ensures
