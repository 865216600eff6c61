-- `cutting_writer::short::lay_walk`: each half-edge carries `SlotFilling` one further.
use Rattle.std.proofs.Common.{◌≡◌, ◌+◌, ◌-◌, ◌∙◌, length, arith}
use Rattle.cutting_writer.specs.short.laws.Laying.{laying_over, laying_out, laying_step}
use Rattle.cutting_writer.proofs.short.lay_walk.Goals as goal

pub returns-then-halfedges-wide : goal.returns-then-halfedges-wide
returns-then-halfedges-wide c =
    let a = c.args in
    let l = c.loop in
    laying_over a.triangles.now a.halfedges.now a.centers.now a.t a.k a.slots.now l.count l.e l.last (length a.halfedges.now - l.counter) _
    l.invariant.laying (omega (arith, c.wide.ensures, c.if-halfedges-wide.true))

pub loop-preserved : goal.loop-preserved
loop-preserved c =
    let a = c.args in
    let l = c.loop in
    let n = length a.halfedges.now in
    let one : n - l.counter - 1 ≡ n - (l.counter + 1) = omega arith in
    record {
      laying = rw one at (laying_step a.triangles.now a.halfedges.now a.centers.now a.t a.k a.slots.now l.count l.e l.last (n - l.counter) _
          l.invariant.laying (omega (arith, c.loop-test.true)) (omega (arith, c.wide.ensures, c.if-halfedges-wide.false)) _ c.out_spot.ensures _ _
          c.lay-count.ensures _ c.turn_from-e.ensures);
      slots = c.lay-count.auto.slots ∙ l.invariant.slots;
    }

pub returns : goal.returns
returns c =
    let a = c.args in
    let l = c.loop in
    laying_out a.triangles.now a.halfedges.now a.centers.now a.t a.k a.slots.now l.count l.e l.last (length a.halfedges.now - l.counter) _
    l.invariant.laying (omega (arith, c.loop-test.false))
