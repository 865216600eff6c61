-- `cells::listing::corners` meets its contract: the word, the four owners, the labelled number and the line's end, one after the other.
use native.Mathlib.Omega.{arith}
use lib.ListN.{length-append}
use Rattle.octets.specs.laws.Wrote.{wrote_then}
use Rattle.printing.specs.parts.Labelled.{labelled as labelledOf}
use Rattle.cells.specs.listing.Listing.{corners as corners_of}
use Rattle.cells.proofs.listing.corners.Goals as goal

pub returns : goal.returns
unfolding corners_of labelledOf
returns c =
    wrote_then (wrote_then (wrote_then c.put-a.ensures c.entries-b.ensures) c.labelled-c.ensures) c.put.ensures

pub put-a-requires : goal.put-a-requires
unfolding corners_of labelledOf
put-a-requires c = omega (arith, simp length-append at c.requires)

pub entries-b-requires : goal.entries-b-requires
unfolding corners_of labelledOf
entries-b-requires c = omega (arith, simp length-append at c.requires)

pub labelled-c-requires : goal.labelled-c-requires
unfolding corners_of labelledOf
labelled-c-requires c = omega (arith, simp length-append at c.requires)

pub put-requires : goal.put-requires
unfolding corners_of labelledOf
put-requires c = omega (arith, simp length-append at c.requires)
