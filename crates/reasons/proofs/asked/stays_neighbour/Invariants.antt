-- Each turn takes the first of the neighbours that are left after clipping, and t is sought among the others.
use Rattle.std.specs.Prelude.{length}
use Rattle.mesh.specs.Mesh.{whole_of}
use Rattle.walks.specs.shared.Cells.{share_edge_of}
use Rattle.queries.specs.clipped.Clipped.{clipped_of}
use Rattle.queries.specs.clipped.ClippedCursor.{clipped_left}
use Rattle.reasons.specs.laws.Search.{SeeksStaying}
use Rattle.reasons.proofs.asked.stays_neighbour.Given as goal

abbrev pub invariant-loop-x : goal.invariant-loop-x
invariant-loop-x l = SeeksStaying l.triangles l.halfedges (share_edge_of l.offsets l.indexes l.s) l.t
    (clipped_of l.triangles l.halfedges (share_edge_of l.offsets l.indexes l.s) (whole_of l.halfedges l.start)) l.c

abbrev pub decreases-loop-x : goal.decreases-loop-x
decreases-loop-x l = length (clipped_left l.triangles l.halfedges (share_edge_of l.offsets l.indexes l.s) l.c)
