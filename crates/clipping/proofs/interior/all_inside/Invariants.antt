-- All vertices before place k are inside.
use Rattle.plane.specs.points.Flat.{points}
use Rattle.clipping.specs.interior.Interior.{AllInside}
use Rattle.clipping.proofs.interior.all_inside.Given as goal

abbrev pub invariant-loop-k : goal.invariant-loop-k
invariant-loop-k l = AllInside l.bounds l.centers (points l.count l.vertices) l.indexes l.ring l.k
