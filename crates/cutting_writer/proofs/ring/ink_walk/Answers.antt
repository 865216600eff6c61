-- `cutting_writer::ring::ink_walk`: each half-edge carries `Inking` one further.
use Rattle.std.proofs.Common.{◌≡◌, ◌+◌, ◌-◌, length, arith}
use Rattle.cutting_writer.specs.ring.laws.Walks.{inking_over, inking_out, inking_asks, inking_step}
use Rattle.cutting_writer.proofs.ring.ink_walk.Goals as goal

pub returns-then-halfedges-wide : goal.returns-then-halfedges-wide
returns-then-halfedges-wide c = inking_over _ _ _ _ _ (length c.args.halfedges.now - c.loop.counter) _ c.loop.invariant (omega (arith, c.wide.ensures, c.if-halfedges-wide.true))

pub ink_numbered-pen-requires : goal.ink_numbered-pen-requires
ink_numbered-pen-requires c =
    inking_asks _ _ _ _ _ (length c.args.halfedges.now - c.loop.counter) _ c.loop.invariant (omega (arith, c.loop-test.true))
    (omega (arith, c.wide.ensures, c.if-halfedges-wide.false)) _ c.site_at.ensures c.requires

pub loop-preserved : goal.loop-preserved
loop-preserved c =
    let n = length c.args.halfedges.now in
    let one : n - c.loop.counter - 1 ≡ n - (c.loop.counter + 1) = omega arith in
    rw one at (inking_step _ _ _ _ _ (n - c.loop.counter) _ c.loop.invariant (omega (arith, c.loop-test.true)) (omega (arith, c.wide.ensures, c.if-halfedges-wide.false))
    _ c.site_at.ensures _ _ c.ink_numbered-pen.ensures _ c.turn_from-e.ensures)

pub returns : goal.returns
returns c = inking_out _ _ _ _ _ (length c.args.halfedges.now - c.loop.counter) _ c.loop.invariant (omega (arith, c.loop-test.false))
