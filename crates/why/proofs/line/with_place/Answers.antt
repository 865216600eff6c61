-- `why::line::with_place` meets its contract: two labelled numbers and the line's end.
use native.Mathlib.Omega.{arith}
use lib.ListN.{length-append}
use Rattle.printing.specs.parts.Labelled.{labelled as labelledOf}
use Rattle.octets.specs.laws.Wrote.{wrote_then}
use Rattle.why.specs.line.ReasonLine.{place_line}
use Rattle.why.proofs.line.with_place.Goals as goal

pub returns : goal.returns
unfolding labelledOf place_line
returns c =
    wrote_then (wrote_then c.labelled-a.ensures c.labelled-b.ensures) c.put.ensures

pub labelled-a-requires : goal.labelled-a-requires
unfolding labelledOf place_line
labelled-a-requires c = omega (arith, rw (length-append, length-append) at c.requires)

pub labelled-b-requires : goal.labelled-b-requires
unfolding labelledOf place_line
labelled-b-requires c = omega (arith, rw (length-append, length-append) at c.requires)

pub put-requires : goal.put-requires
unfolding labelledOf place_line
put-requires c = omega (arith, rw (length-append, length-append) at c.requires)
