-- `cells::listing::counts_and_cells` meets its contract: the line of counts, then the cells' lines.
use native.Mathlib.Omega.{arith}
use lib.ListN.{length-append}
use Rattle.octets.specs.laws.Wrote.{wrote_then}
use Rattle.cells.specs.listing.Listing.{counts_and_cells}
use borrow.Author.Rules.{rules}
use Rattle.cells.proofs.listing.counts_and_cells.Statement.{statement}
use Rattle.cells.proofs.listing.counts_and_cells.Tie as tie

cell_lines-requires : tie.Need-cell_lines-requires
unfolding counts_and_cells
cell_lines-requires c κs =
    let one = c in let s = one in
    rw c.wide.ensures (s.requires.0, omega (arith, simp length-append at s.requires.1))

returns : tie.Need-returns
unfolding counts_and_cells
returns c =
    let two = c in
    wrote_then two.counts-end.ensures (rw two.wide.ensures at two.cell_lines.ensures)

pub counts_and_cells_spec : {M : Type 1} → statement M
unfolding counts_and_cells
counts_and_cells_spec =
    tie.close
    (tie.spec (λ c κs. omega (arith, simp length-append at c.requires.1)) (λ c κs. search rules) cell_lines-requires
    (λ c. search rules) returns)
