-- `cells::listing::counts` meets its contract: three labelled numbers and the line's end, one after the other.
use native.Mathlib.Omega.{arith}
use lib.ListN.{length-append}
use Rattle.octets.specs.laws.Wrote.{wrote_then}
use Rattle.printing.specs.parts.Labelled.{labelled as labelledOf}
use Rattle.cells.specs.listing.Listing.{counts as counts_of}
use Rattle.cells.proofs.listing.counts.Goals as goal

pub returns : goal.returns
unfolding counts_of labelledOf
returns c =
    wrote_then (wrote_then (wrote_then c.labelled-a.ensures c.labelled-b.ensures) c.labelled-c.ensures) c.put.ensures

pub labelled-a-requires : goal.labelled-a-requires
unfolding counts_of labelledOf
labelled-a-requires c = omega (arith, simp length-append at c.requires)

pub labelled-b-requires : goal.labelled-b-requires
unfolding counts_of labelledOf
labelled-b-requires c = omega (arith, simp length-append at c.requires)

pub labelled-c-requires : goal.labelled-c-requires
unfolding counts_of labelledOf
labelled-c-requires c = omega (arith, simp length-append at c.requires)

pub put-requires : goal.put-requires
unfolding counts_of labelledOf
put-requires c = omega (arith, simp length-append at c.requires)
