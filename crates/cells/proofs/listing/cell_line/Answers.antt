-- `cells::listing::cell_line` meets its contract: the labelled number, the colon, the entries and the line's end, one after the other.
use native.Mathlib.Omega.{arith}
use lib.ListN.{length-append}
use Rattle.octets.specs.laws.Wrote.{wrote_then}
use Rattle.printing.specs.parts.Labelled.{labelled as labelledOf}
use Rattle.cells.specs.listing.Listing.{cell_line}
use Rattle.cells.proofs.listing.cell_line.Goals as goal

pub returns : goal.returns
unfolding cell_line labelledOf
returns c =
    wrote_then (wrote_then (wrote_then c.labelled-a.ensures c.put-b.ensures) c.entries-c.ensures) c.put.ensures

pub labelled-a-requires : goal.labelled-a-requires
unfolding cell_line labelledOf
labelled-a-requires c = omega (arith, simp length-append at c.requires)

pub put-b-requires : goal.put-b-requires
unfolding cell_line labelledOf
put-b-requires c = omega (arith, simp length-append at c.requires)

pub entries-c-requires : goal.entries-c-requires
unfolding cell_line labelledOf
entries-c-requires c = omega (arith, simp length-append at c.requires)

pub put-requires : goal.put-requires
unfolding cell_line labelledOf
put-requires c = omega (arith, simp length-append at c.requires)
