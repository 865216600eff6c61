-- `export::map_text::map_lines` meets its contract: the invariant is that the lines so far are written; each turn writes one more, of the part between two offsets.
use Rattle.printing.specs.parts.Listed.{listed_cell}
use Rattle.octets.specs.laws.Wrote.{Lined}
use Rattle.octets.specs.laws.Lines.{lines_from}
use Rattle.wkb.specs.Polygon.{patterns}
use Rattle.wkb.specs.Promise.{image}
use Rattle.export.specs.map_text.MapText.{map_line}
use Rattle.export.proofs.map_text.map_lines.Given as goal

abbrev pub invariant-loop-i : goal.invariant-loop-i
invariant-loop-i l = Lined (lines_from (λ k. map_line k (image (patterns l.vertices) (listed_cell l.offsets l.indexes k))) 0) l.sites l.initial.out l.out l.at l.end l.i
