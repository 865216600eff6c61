-- Before each turn x and y are the sum of the points passed.
use Rattle.std.proofs.Common.{◌≡◌}
use Rattle.plane.specs.points.Plane.{at}
use Rattle.plane.specs.centers.Centroid.{point_sum}
use Rattle.plane.proofs.centers.sum_of.Given as goal

abbrev pub invariant-loop-i : goal.invariant-loop-i
invariant-loop-i l = at l.x l.y ≡ point_sum l.points l.i
