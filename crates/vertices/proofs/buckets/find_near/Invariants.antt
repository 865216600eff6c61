-- What the search finds from place i on is what it finds from the start, as nothing before i is near.
use Rattle.std.proofs.Common.{◌≡◌, ◌-◌}
use Rattle.plane.specs.points.Flat.{points_from}
use Rattle.vertices.specs.Add.{find_near}
use Rattle.vertices.proofs.buckets.find_near.Given as goal

abbrev pub invariant-loop-i : goal.invariant-loop-i
invariant-loop-i l = find_near l.p (points_from l.vertices l.from (l.count - l.from)) l.from ≡ find_near l.p (points_from l.vertices l.i (l.count - l.i)) l.i
