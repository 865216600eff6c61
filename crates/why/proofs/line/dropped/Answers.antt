-- `why::line::dropped` meets its contract: the two sites, how many entries they share, and the line's end.
use native.Mathlib.Omega.{arith}
use lib.ListN.{length-append}
use Rattle.printing.specs.parts.Labelled.{labelled as labelledOf}
use Rattle.octets.specs.laws.Wrote.{wrote_then}
use Rattle.why.specs.line.ReasonLine.{dropped_line}
use Rattle.why.proofs.line.dropped.Goals as goal

pub returns : goal.returns
unfolding dropped_line labelledOf
returns c =
    wrote_then (wrote_then (wrote_then c.labelled-a.ensures c.entry-b.ensures) c.labelled-c.ensures) c.put.ensures

pub labelled-a-requires : goal.labelled-a-requires
unfolding dropped_line labelledOf
labelled-a-requires c = omega (arith, simp length-append at c.requires)

pub entry-b-requires : goal.entry-b-requires
unfolding dropped_line labelledOf
entry-b-requires c = omega (arith, simp length-append at c.requires)

pub labelled-c-requires : goal.labelled-c-requires
unfolding dropped_line labelledOf
labelled-c-requires c = omega (arith, simp length-append at c.requires)

pub put-requires : goal.put-requires
unfolding dropped_line labelledOf
put-requires c = omega (arith, simp length-append at c.requires)
