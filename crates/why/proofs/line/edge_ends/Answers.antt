-- `why::line::edge_ends` meets its contract: two labelled numbers and the line's end.
use native.Mathlib.Omega.{arith}
use lib.ListN.{length-append}
use Rattle.printing.specs.parts.Labelled.{labelled as labelledOf}
use Rattle.octets.specs.laws.Wrote.{wrote_then}
use Rattle.why.specs.line.ReasonLine.{edge_ends}
use Rattle.why.proofs.line.edge_ends.Goals as goal

pub returns : goal.returns
unfolding edge_ends labelledOf
returns c =
    wrote_then (wrote_then c.labelled-a.ensures c.labelled-b.ensures) c.put.ensures

pub labelled-a-requires : goal.labelled-a-requires
unfolding edge_ends labelledOf
labelled-a-requires c = omega (arith, simp length-append at c.requires)

pub labelled-b-requires : goal.labelled-b-requires
unfolding edge_ends labelledOf
labelled-b-requires c = omega (arith, simp length-append at c.requires)

pub put-requires : goal.put-requires
unfolding edge_ends labelledOf
put-requires c = omega (arith, simp length-append at c.requires)
