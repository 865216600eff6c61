-- `certifying::call::verdict` meets its contract: the first fault is named, or the second is asked for.
use Rattle.std.proofs.Common.{arith, refl}
use Rattle.certifying.specs.call.laws.Stages.{outside_named, outside_after, outside_taken}
use Rattle.certifying.proofs.call.verdict.Goals as goal

pub name_outside-requires : goal.name_outside-requires
name_outside-requires c = record {
  cut = c.requires.near.rings.cut;
  named = c.requires.near.rings.named;
  own = omega (arith, c.if-s-sites.true, c.requires.near.pieces.cut.many);
  few = omega (arith, c.requires.near.few, c.requires.near.pieces.cut.many);
  outside = outside_taken c.args.bounds c.args.bits c.args.sites.now c.args.vertices.now c.args.offsets.now c.args.indexes.now c.requires.near.pieces.cut
      c.first_site_outside-s.ensures c.if-s-sites.true;
}

pub returns-then-s-sites : goal.returns-then-s-sites
returns-then-s-sites c = (
  outside_named c.args.bounds c.args.bits c.args.sites.now c.args.vertices.now c.args.offsets.now c.args.indexes.now c.requires.near.pieces.cut
      c.first_site_outside-s.ensures c.if-s-sites.true c.name_outside.ensures,
  refl,
)

pub returns : goal.returns
returns c = (
  outside_after c.args.bounds c.args.bits c.args.sites.now c.args.vertices.now c.args.offsets.now c.args.indexes.now c.requires.near.pieces.cut
      c.first_site_outside-s.ensures c.if-s-sites.false c.judge_sides.ensures.0,
  c.judge_sides.ensures.1,
)
