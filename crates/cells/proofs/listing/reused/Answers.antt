-- `cells::listing::reused` meets its contract: the word, the three numbers and the line's end, one after the other.
use native.Mathlib.Omega.{arith}
use lib.ListN.{length-append}
use Rattle.octets.specs.laws.Wrote.{wrote_then}
use Rattle.cells.specs.listing.Listing.{reused_line}
use Rattle.cells.proofs.listing.reused.Goals as goal

pub returns : goal.returns
unfolding reused_line
returns c =
    wrote_then (wrote_then c.put-a.ensures c.entries-b.ensures) c.put.ensures

pub put-a-requires : goal.put-a-requires
unfolding reused_line
put-a-requires c = omega (arith, simp length-append at c.requires)

pub entries-b-requires : goal.entries-b-requires
unfolding reused_line
entries-b-requires c = omega (arith, simp length-append at c.requires)

pub put-requires : goal.put-requires
unfolding reused_line
put-requires c = omega (arith, simp length-append at c.requires)
