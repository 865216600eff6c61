-- `why::line::empty_cell` meets its contract: the labelled site, then why.
use native.Mathlib.Omega.{arith}
use lib.ListN.{length-append}
use Rattle.printing.specs.parts.Labelled.{labelled as labelledOf}
use Rattle.octets.specs.laws.Wrote.{wrote_then}
use Rattle.why.specs.line.ReasonLine.{empty_line}
use Rattle.why.proofs.line.empty_cell.Goals as goal

pub returns : goal.returns
unfolding empty_line labelledOf
returns c =
    wrote_then c.labelled-a.ensures c.put.ensures

pub labelled-a-requires : goal.labelled-a-requires
unfolding empty_line labelledOf
labelled-a-requires c = omega (arith, simp length-append at c.requires)

pub put-requires : goal.put-requires
unfolding empty_line labelledOf
put-requires c = omega (arith, simp length-append at c.requires)
