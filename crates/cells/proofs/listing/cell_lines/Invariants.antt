-- `cells::listing::cell_lines` meets its contract: the invariant is that the lines so far are written; each turn writes one more, of the part between two offsets.
use Rattle.cells.specs.listing.Listing.{cell_line}
use Rattle.printing.specs.parts.Listed.{listed_cell}
use Rattle.octets.specs.laws.Wrote.{Lined}
use Rattle.octets.specs.laws.Lines.{lines_from}
use Rattle.cells.proofs.listing.cell_lines.Given as goal

abbrev pub invariant-loop-i : goal.invariant-loop-i
invariant-loop-i l = Lined (lines_from (λ k. cell_line k (listed_cell l.offsets l.cells k)) 0) l.sites l.initial.out l.out l.at l.end l.i
