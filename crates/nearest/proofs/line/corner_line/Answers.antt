-- The labelled number, then the rest of the line.
use Rattle.std.proofs.Common.{arith, length-append}
use Rattle.octets.specs.laws.Wrote.{wrote_then}
use Rattle.nearest.specs.line.NearestLine.{corner_line}
use Rattle.nearest.proofs.line.corner_line.Goals as goal

pub returns : goal.returns
unfolding corner_line
returns c =
    wrote_then c.labelled-end.ensures c.put.ensures

pub labelled-end-requires : goal.labelled-end-requires
unfolding corner_line
labelled-end-requires c = omega (arith, simp length-append at c.requires)

pub put-requires : goal.put-requires
unfolding corner_line
put-requires c = omega (arith, simp length-append at c.requires)
