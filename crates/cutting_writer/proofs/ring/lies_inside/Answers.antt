-- `cutting_writer::ring::lies_inside`: each half-edge carries `Scan` one further.
use Rattle.std.proofs.Common.{◌≡◌, ◌+◌, ◌-◌, length, arith, ap, not}
use Rattle.cutting_writer.specs.ring.laws.Walks.{scan_step, scan_end}
use Rattle.cutting_writer.proofs.ring.lies_inside.Goals as goal

pub returns-then-a-t : goal.returns-then-a-t
returns-then-a-t c =
    let q = rw (c.next_halfedge.ensures, c.wide-in-loop.ensures) at c.entry_at-a.ensures in
    λ _. scan_end _ _ _ _ (length c.args.halfedges.now - c.loop.counter) _ (omega (arith, c.loop-test.true)) c.loop.invariant _ c.center_inside.ensures
    (ap not c.if-not-center_inside.false) _ q c.if-a-t.true

pub loop-preserved : goal.loop-preserved
loop-preserved c =
    let n = length c.args.halfedges.now in
    let one : n - c.loop.counter - 1 ≡ n - (c.loop.counter + 1) = omega arith in
    let q = rw (c.next_halfedge.ensures, c.wide-in-loop.ensures) at c.entry_at-a.ensures in
    rw one at (scan_step _ _ _ _ (n - c.loop.counter) _ (omega (arith, c.loop-test.true)) c.loop.invariant _ c.center_inside.ensures (ap not c.if-not-center_inside.false)
    _ q c.if-a-t.false (omega (arith, c.wide-in-loop-2.ensures, c.if-halfedges-wide-2.false)))
