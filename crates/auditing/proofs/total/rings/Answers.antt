-- `auditing::total::rings` meets its contract: the rings that were passed are in the sums.
use Rattle.std.proofs.Common.{arith}
use Rattle.auditing.specs.total.laws.Sums.{rings_start, ring_open, rings_step, rings_end}
use Rattle.auditing.proofs.total.rings.Goals as goal

pub loop-s-init : goal.loop-s-init
loop-s-init c = rings_start _ _ _ _ _ c.requires.0.cut

pub ring-requires : goal.ring-requires
ring-requires c =
    let o = ring_open c.loop-s.invariant c.requires.0 (omega (arith, c.cell_count-count.ensures)) c.cell.ensures c.requires.1 c.requires.2 in
    (o.0, o.1, o.2)

pub loop-s-preserved : goal.loop-s-preserved
loop-s-preserved c = rings_step c.loop-s.invariant c.requires.0 (omega (arith, c.cell_count-count.ensures)) c.cell.ensures c.ring.ensures

pub returns : goal.returns
returns c = rings_end c.loop-s.invariant c.requires.0 _ (omega (arith, c.cell_count-count.ensures, c.loop-s.invariant.most, c.loop-s-test.false))
