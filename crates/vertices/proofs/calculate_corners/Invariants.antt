-- After k turns the vertices are the circumcenters and the first k corners, and those are chained.
use Rattle.std.proofs.Common.{◌+◌, ◌++◌, take}
use Rattle.plane.specs.points.Flat.{points}
use Rattle.vertices.specs.Store.{Leaves}
use Rattle.vertices.proofs.calculate_corners.Given as goal

abbrev pub invariant-loop-k : goal.invariant-loop-k
invariant-loop-k l =
    Leaves l.centers l.limit (points l.centers l.fn.vertices ++ take l.k l.fn.corners) l.fn.vertices l.initial.indexes (l.centers + l.k) l.vertices l.indexes
