-- `queries::clipped::clipped_neighbours` meets its contract.
use Rattle.std.proofs.Common.{arith}
use Rattle.walks.specs.shared.Cells.{share_edge_of}
use Rattle.walks.specs.neighbours.laws.Rest.{settled_start}
use Rattle.queries.specs.clipped.laws.ClippedLoop.{handing_start}
use Rattle.queries.proofs.clipped.clipped_neighbours.Goals as goal

pub loop-n-init : goal.loop-n-init
loop-n-init c = handing_start c.args.triangles.now c.args.halfedges.now _ (share_edge_of c.args.offsets.now c.args.indexes.now c.args.s)
    (omega (arith, c.requires.0.paired.small)) _ (settled_start _ _ c.requires.0.paired _)
