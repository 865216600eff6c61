-- `certifying::call::judge_nearer` meets its contract: the fourth fault is named, or the fifth is asked for.
use Rattle.std.proofs.Common.{sym, subst, ◌∙◌, arith}
use Rattle.certifying.specs.windows.Windows.{NotMinus}
use Rattle.certifying.specs.windows.laws.Plus.{far_plus}
use Rattle.certifying.specs.call.laws.Stages.{near_far, near_named, near_after, near_taken}
use Rattle.certifying.proofs.call.judge_nearer.Goals as goal

pub first_site_nearer-s-requires : goal.first_site_nearer-s-requires
first_site_nearer-s-requires c = (subst NotMinus (sym c.far-f.ensures) (far_plus c.args.bounds _), c.requires.near)

pub name_nearer-requires : goal.name_nearer-requires
name_nearer-requires c = record {
  pieces = c.requires.near.pieces;
  few = c.requires.near.few;
  own = c.if-s-sites.true;
  nearer = near_taken c.far-f.result c.args.sites.now c.args.vertices.now c.args.offsets.now c.args.indexes.now c.first_site_nearer-s.ensures.0 c.if-s-sites.true;
}

pub returns-then-s-sites : goal.returns-then-s-sites
returns-then-s-sites c = (
  near_far c.args.bounds c.args.bits c.args.sites.now c.args.vertices.now c.args.offsets.now c.args.indexes.now c.from.ensures c.far-f.ensures
      (near_named c.far-f.result c.args.sites.now c.args.vertices.now c.args.offsets.now c.args.indexes.now c.first_site_nearer-s.ensures.0 c.if-s-sites.true
      c.name_nearer.ensures),
  c.first_site_nearer-s.ensures.1,
)

pub judge_twins-requires : goal.judge_twins-requires
judge_twins-requires c = (omega (arith, c.requires.near.roomy, c.first_site_nearer-s.ensures.1), c.requires.near.few)

pub returns : goal.returns
returns c = (
  near_far c.args.bounds c.args.bits c.args.sites.now c.args.vertices.now c.args.offsets.now c.args.indexes.now c.from.ensures c.far-f.ensures
      (near_after c.far-f.result c.args.sites.now c.args.vertices.now c.args.offsets.now c.args.indexes.now c.first_site_nearer-s.ensures.0 c.if-s-sites.false
      c.judge_twins.ensures.0),
  c.judge_twins.ensures.1 ∙ c.first_site_nearer-s.ensures.1,
)
