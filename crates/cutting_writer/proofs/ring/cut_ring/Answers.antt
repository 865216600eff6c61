-- `cutting_writer::ring::cut_ring`: a ring wholly inside as it is walked.
use Rattle.cutting.specs.pen.Pen.{page}
use Rattle.cutting_writer.specs.ring.laws.Inside.{inside_asks, inside_made}
use Rattle.cutting_writer.proofs.ring.cut_ring.Goals as goal

pub ink_walk-requires : goal.ink_walk-requires
ink_walk-requires c =
    let a = c.args in
    let p = c.requires in
    inside_asks a.b a.triangles.now a.halfedges.now a.centers a.t p.0 p.1 a.sites.now (page a.pen a.vertices.now a.indexes.now) p.2
    (c.lies_inside.ensures c.if-lies_inside.true)

pub returns-then-lies_inside : goal.returns-then-lies_inside
returns-then-lies_inside c =
    let a = c.args in
    let p = c.requires in
    inside_made a.b a.triangles.now a.halfedges.now a.centers a.t p.0 p.1 a.sites.now (page a.pen a.vertices.now a.indexes.now) p.2
    (c.lies_inside.ensures c.if-lies_inside.true) _ c.ink_walk.ensures
