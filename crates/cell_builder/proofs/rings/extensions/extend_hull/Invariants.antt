-- The loop follows the definition hull place by hull place.
use Rattle.plane.specs.points.Flat.{points}
use Rattle.cell_builder.specs.rings.Extensions.{PointAhead}
use Rattle.cell_builder.specs.rings.laws.Extensions.{Extending}
use Rattle.cell_builder.proofs.rings.extensions.extend_hull.Given as goal

abbrev pub invariant-loop-i : goal.invariant-loop-i
invariant-loop-i l =
    Extending l.sites l.triangles l.hull l.table l.centers l.limit l.at l.count l.fn.vertices l.fn.indexes l.vertices l.indexes l.n l.old l.i
    × PointAhead l.sites l.triangles l.hull l.table (points l.n l.vertices) l.i l.ahead
