-- `cutting_writer::site::walk_whole`: each half-edge carries `Walking` one further.
use Rattle.std.proofs.Common.{◌≡◌, ◌+◌, ◌-◌, length, arith, refl}
use Rattle.cutting_writer.specs.stream.Stages.{left_of}
use Rattle.cutting_writer.specs.site.laws.Walk.{walking_over, walking_out, counted_asks, counted_step}
use Rattle.cutting_writer.proofs.site.walk_whole.Goals as goal

pub returns-then-wide-halfedges : goal.returns-then-wide-halfedges
returns-then-wide-halfedges c =
    let a = c.args in
    walking_over a.b a.sites.now a.triangles.now a.halfedges.now a.centers a.t (left_of a.stage a.vertices.now a.indexes.now) a.vertices.now
    (length a.halfedges.now - c.loop.counter) c.loop.invariant (omega (arith, c.wide.ensures, c.if-wide-halfedges.true))

pub walk_on-w-requires : goal.walk_on-w-requires
walk_on-w-requires c =
    let a = c.args in
    counted_asks a.b a.sites.now a.triangles.now a.halfedges.now a.centers a.t (left_of a.stage a.vertices.now a.indexes.now) a.vertices.now c.requires refl
    (length a.halfedges.now - c.loop.counter) (omega (arith, c.loop-test.true)) c.loop.invariant (omega (arith, c.wide.ensures, c.if-wide-halfedges.false))

pub loop-preserved : goal.loop-preserved
loop-preserved c =
    let a = c.args in
    let n = length a.halfedges.now in
    let one : n - c.loop.counter - 1 ≡ n - (c.loop.counter + 1) = omega arith in
    rw one at (counted_step a.b a.sites.now a.triangles.now a.halfedges.now a.centers a.t (left_of a.stage a.vertices.now a.indexes.now) a.vertices.now c.requires refl
    (n - c.loop.counter) (omega (arith, c.loop-test.true)) c.loop.invariant (omega (arith, c.wide.ensures, c.if-wide-halfedges.false)) c.walk_on-w.ensures)

pub returns : goal.returns
returns c =
    let a = c.args in
    walking_out a.b a.sites.now a.triangles.now a.halfedges.now a.centers a.t (left_of a.stage a.vertices.now a.indexes.now) a.vertices.now
    (length a.halfedges.now - c.loop.counter) (omega (arith, c.loop-test.false)) c.loop.invariant
