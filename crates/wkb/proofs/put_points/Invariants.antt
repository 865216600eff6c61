-- The points so far are written; each turn writes one more.
use Rattle.std.proofs.Common.{◌++◌, length}
use Rattle.octets.specs.laws.Wrote.{Lined}
use Rattle.wkb.specs.Polygon.{patterns}
use Rattle.wkb.specs.laws.Points.{points_to}
use Rattle.wkb.proofs.put_points.Given as goal

abbrev pub invariant-loop-entry : goal.invariant-loop-entry
invariant-loop-entry l = Lined (points_to (patterns l.floats ++ l.bits) l.entries) (length l.entries) l.fn.out l.out l.fn.at l.end l.entry-index
