-- `cutting_writer::short::lay_ring`: the ring in three parts.
use Rattle.std.proofs.Common.{arith}
use Rattle.cutting_writer.specs.short.laws.Laying.{ring_absent, ring_laid}
use Rattle.cutting_writer.proofs.short.lay_ring.Goals as goal

pub returns-then-halfedges-wide : goal.returns-then-halfedges-wide
returns-then-halfedges-wide c =
    let a = c.args in
    ring_absent a.sites.now a.triangles.now a.halfedges.now a.centers.now a.t a.slots.now (omega (arith, c.wide.ensures, c.if-halfedges-wide.true))

pub returns : goal.returns
returns c =
    let a = c.args in
    ring_laid a.sites.now a.triangles.now a.halfedges.now a.centers.now a.t a.slots.now (omega (arith, c.wide.ensures, c.if-halfedges-wide.false))
    c.lay_ray-k.ensures c.lay_walk-w.ensures c.lay_far.ensures
