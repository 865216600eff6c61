-- How long the text is, by the number of changes.
use Rattle.std.specs.Prelude.{List, ◌++◌, ℕ, ◌+◌, ◌*◌, ◌≤◌, length}
use Rattle.std.proofs.Common.{arith, length-append}
use Rattle.printing.specs.parts.Text.{ascii}
use Rattle.mend.specs.box_line.BoxLine.{box_line}
use Rattle.mend.specs.box_line.laws.BoxLine.{box_short}
use Rattle.mend.specs.change_lines.ChangeLines.{change_lines, counts_line}
use Rattle.mend.specs.change_lines.laws.ChangeLines.{lines_short, counts_short}
use Rattle.mend.specs.text.MendText.{mend_text}

-- what the text of a box and so many changes needs
pub text_short : (first cs : List ℕ) (p q : ℕ) → length (mend_text first cs p q) ≤ 39 * (p + q) + 121
unfolding mend_text
text_short first cs p q =
    let x = box_line first in
    let a = change_lines (ascii "pair") cs 0 p in
    let b = change_lines (ascii "hull") cs p q in
    omega (
      arith,
      length-append (x ++ a ++ b) (counts_line p q),
      length-append (x ++ a) b,
      length-append x a,
      box_short first,
      lines_short (ascii "pair") cs (omega arith) p 0,
      lines_short (ascii "hull") cs (omega arith) q p,
      counts_short p q,
    )
