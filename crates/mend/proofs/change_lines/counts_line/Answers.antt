-- `mend::change_lines::counts_line` meets its contract: two labelled numbers and the line's end.
use native.Mathlib.Omega.{arith}
use lib.ListN.{length-append}
use Rattle.printing.specs.parts.Labelled.{labelled as labelledOf}
use Rattle.octets.specs.laws.Wrote.{wrote_then}
use Rattle.mend.specs.change_lines.ChangeLines.{counts_line}
use Rattle.mend.proofs.change_lines.counts_line.Goals as goal

pub returns : goal.returns
unfolding counts_line labelledOf
returns c =
    wrote_then (wrote_then c.labelled-a.ensures c.labelled-b.ensures) c.put.ensures

pub labelled-a-requires : goal.labelled-a-requires
unfolding counts_line labelledOf
labelled-a-requires c = omega (arith, simp length-append at c.requires)

pub labelled-b-requires : goal.labelled-b-requires
unfolding counts_line labelledOf
labelled-b-requires c = omega (arith, simp length-append at c.requires)

pub put-requires : goal.put-requires
unfolding counts_line labelledOf
put-requires c = omega (arith, simp length-append at c.requires)
