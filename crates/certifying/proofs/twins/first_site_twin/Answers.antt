-- `certifying::twins::first_site_twin` meets its contract: the sites that were passed have none before them, and are chained.
use Rattle.std.proofs.Common.{◌∙◌, arith}
use Rattle.ring_area.specs.lowest.laws.Loops.{passed_found, passed_end}
use Rattle.certifying.specs.twins.laws.Inserting.{held_step, held_at}
use Rattle.certifying.proofs.twins.first_site_twin.Goals as goal

pub returns-then-lookup : goal.returns-then-lookup
returns-then-lookup c = (
  passed_found c.loop-s.invariant.none c.loop-s-test.true c.lookup.ensures c.if-lookup.true,
  c.loop-s.invariant.long ∙ c.empty.ensures.1,
)

pub loop-s-preserved : goal.loop-s-preserved
loop-s-preserved c =
    let h = held_at c.loop-s.invariant c.loop-s-test.true c.point_at.ensures c.bucket-m.ensures in
    held_step c.loop-s.invariant h c.lookup.ensures c.if-lookup.false c.push_front.ensures

pub returns : goal.returns
returns c = (
  let n = c.loop-s-test.false in omega (arith, n, passed_end c.loop-s.invariant.none n, c.loop-s.invariant.none.most),
  c.loop-s.invariant.long ∙ c.empty.ensures.1,
)
