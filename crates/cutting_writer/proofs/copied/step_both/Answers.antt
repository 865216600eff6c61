-- `cutting_writer::copied::step_both`: the next half-edge of a whole triangle is there.
use Rattle.std.proofs.Common.{arith}
use Rattle.mesh.specs.laws.Next.{next_sum}
use Rattle.cutting_writer.proofs.copied.step_both.Goals as goal

pub offset_bounds-halfedges-next_halfedge : goal.offset_bounds-halfedges-next_halfedge
offset_bounds-halfedges-next_halfedge c =
    let p = c.requires in
    omega (arith, c.next_halfedge.ensures, c.wide.ensures, next_sum c.wide.result, p.0.thirds, p.0.small, p.1)

pub bounds-halfedges-next_halfedge : goal.bounds-halfedges-next_halfedge
bounds-halfedges-next_halfedge c =
    let p = c.requires in
    omega (arith, c.next_halfedge.ensures, c.wide.ensures, next_sum c.wide.result, p.0.thirds, p.1)
