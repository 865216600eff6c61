-- Each turn writes the first of the neighbours that are left after clipping.
use Rattle.walks.specs.shared.Cells.{share_edge_of}
use Rattle.mesh.specs.Mesh.{whole_of}
use Rattle.queries.specs.clipped.Clipped.{clipped_of}
use Rattle.queries.specs.clipped.laws.ClippedLoop.{ClippedWritten}
use Rattle.queries.proofs.clipped.clipped_neighbours.Given as goal

abbrev pub invariant-loop-n : goal.invariant-loop-n
invariant-loop-n l = ClippedWritten l.triangles l.halfedges (share_edge_of l.offsets l.indexes l.s)
    (clipped_of l.triangles l.halfedges (share_edge_of l.offsets l.indexes l.s) (whole_of l.halfedges l.start)) l.fn.out l.out l.c l.n
