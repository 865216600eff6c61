-- `certifying::sides::lay` meets its contract.
use Rattle.certifying.specs.sides.laws.Inserting.{laid_step, ring_room}
use Rattle.certifying.proofs.sides.lay.Goals as goal

pub lay_ring-requires : goal.lay_ring-requires
lay_ring-requires c = ring_room c.requires c.loop-s.invariant c.loop-s-test.true c.cell.ensures c.wide.ensures

pub loop-s-preserved : goal.loop-s-preserved
loop-s-preserved c = laid_step c.requires.cut c.loop-s.invariant c.loop-s-test.true c.cell.ensures c.wide.ensures c.lay_ring.ensures
