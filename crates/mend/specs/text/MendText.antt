-- The text of `mend`: a line for the box that was put in, a line for each change, and how many of these there are. Definitions only.
use Rattle.std.specs.Prelude.{List, ◌++◌, ℕ, eqb}
use Rattle.base.specs.common.Pick.{pick}
use Rattle.printing.specs.parts.Text.{ascii}
use Rattle.mend.specs.box_line.BoxLine.{box_line}
use Rattle.mend.specs.change_lines.ChangeLines.{change_lines, counts_line}

-- what comes before the hull: in turn 0 the box, in turn 1 the pairs
abbrev pub head : ℕ → List ℕ → List ℕ → ℕ → List ℕ
head turn first changes count = pick (eqb turn 1) (λ _. change_lines (ascii "pair") changes 0 count) (λ _. box_line first)

-- the box, then the changes of pairs, then those of the hull
unfoldable pub mend_text : List ℕ → List ℕ → ℕ → ℕ → List ℕ
mend_text first changes pairs hull =
    box_line first ++ change_lines (ascii "pair") changes 0 pairs ++ change_lines (ascii "hull") changes pairs hull ++ counts_line pairs hull
