-- `mend::change_lines::change_lines` meets its contract: the invariant is that the lines so far are written; each turn writes one more.
use Rattle.octets.specs.laws.Wrote.{Lined}
use Rattle.octets.specs.laws.Lines.{lines_from}
use Rattle.mend.specs.change_lines.ChangeLines.{line_at}
use Rattle.mend.proofs.change_lines.change_lines.Given as goal

abbrev pub invariant-loop-i : goal.invariant-loop-i
invariant-loop-i l = Lined (lines_from (line_at l.label l.changes) l.from) l.count l.initial.out l.out l.at l.end l.i
