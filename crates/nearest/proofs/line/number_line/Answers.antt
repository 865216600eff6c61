-- The labelled number, then the line's end.
use Rattle.std.proofs.Common.{arith, length-append}
use Rattle.octets.specs.laws.Wrote.{wrote_then}
use Rattle.nearest.specs.line.NearestLine.{number_line}
use Rattle.nearest.proofs.line.number_line.Goals as goal

pub returns : goal.returns
unfolding number_line
returns c =
    wrote_then c.labelled-end.ensures c.put.ensures

pub labelled-end-requires : goal.labelled-end-requires
unfolding number_line
labelled-end-requires c = omega (arith, rw length-append at c.requires)

pub put-requires : goal.put-requires
unfolding number_line
put-requires c = omega (arith, rw length-append at c.requires)
