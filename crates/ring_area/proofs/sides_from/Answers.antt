-- `ring_area::sides_from` meets its contract: each turn adds one side, and the last is that back to the first corner.
use Rattle.ring_area.specs.laws.Rings.{ready_side, walked_step, walked_end}
use Rattle.ring_area.proofs.sides_from.Goals as goal

pub side-requires : goal.side-requires
side-requires c =
    let l = c.loop-i in
    let w = l.invariant in
    (rw l.auto.plus w.last, rw (l.auto.plus, c.corner-q.ensures) (c.requires.1.each l.i c.loop-i-test.true), ready_side _ l.i c.requires.3 w.added w.taken w.some w.most)

pub loop-i-preserved : goal.loop-i-preserved
loop-i-preserved c = walked_step c.loop-i.invariant c.requires.1 c.loop-i-test.true c.corner-q.ensures c.side.ensures

pub returns : goal.returns
returns c = walked_end c.loop-i.invariant c.loop-i-test.false c.side-2.ensures
