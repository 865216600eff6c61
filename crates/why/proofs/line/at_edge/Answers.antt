-- `why::line::at_edge` meets its contract: two labelled numbers and the edge's ends.
use native.Mathlib.Omega.{arith}
use lib.ListN.{length-append}
use Rattle.printing.specs.parts.Labelled.{labelled as labelledOf}
use Rattle.octets.specs.laws.Wrote.{wrote_then}
use Rattle.why.specs.line.ReasonLine.{edge_line}
use Rattle.why.proofs.line.at_edge.Goals as goal

pub returns : goal.returns
unfolding edge_line labelledOf
returns c =
    wrote_then (wrote_then c.labelled-a.ensures c.labelled-b.ensures) c.edge_ends.ensures

pub labelled-a-requires : goal.labelled-a-requires
unfolding edge_line labelledOf
labelled-a-requires c = omega (arith, simp length-append at c.requires)

pub labelled-b-requires : goal.labelled-b-requires
unfolding edge_line labelledOf
labelled-b-requires c = omega (arith, simp length-append at c.requires)

pub edge_ends-requires : goal.edge_ends-requires
unfolding edge_line labelledOf
edge_ends-requires c = omega (arith, simp length-append at c.requires)
