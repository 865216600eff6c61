-- `cells::listing::listing` meets its contract: the lines of counts and cells, that of the corners, that of what was reused.
use native.Mathlib.Omega.{arith}
use lib.ListN.{length-append}
use Rattle.octets.specs.laws.Wrote.{wrote_then}
use Rattle.cells.specs.listing.Listing.{listing as listing_of}
use borrow.Author.Rules.{rules}
use Rattle.cells.proofs.listing.listing.Statement.{statement}
use Rattle.cells.proofs.listing.listing.Tie as tie

abbrev Entry : tie.After-counts_and_cells-a → tie.Start
Entry c = c.before.before.before.before.before

abbrev First : tie.After-corners-b → tie.After-counts_and_cells-a
First c = c.before.before.before.before

returns : tie.Need-returns
unfolding listing_of
returns c =
    let three = c in
    let two = three in
    wrote_then (wrote_then (First two.before.before.before.before.before.before).counts_and_cells-a.ensures two.corners-b.ensures) three.reused.ensures

pub listing_spec : {M : Type 1} → statement M
unfolding listing_of
listing_spec =
    tie.close
    (tie.spec (λ c κs. let s = c.before.before.before.before in (s.requires.0, omega (arith, simp length-append at s.requires.1)))
    (λ c κs. omega (arith, simp length-append at (Entry c.before.before.before).requires.1))
    (λ c κs. omega (arith, simp length-append at (Entry (First c.before.before.before)).requires.1)) (λ c. search rules) returns)
