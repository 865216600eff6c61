-- `mend::text::mend_text` meets its contract: the box, the lines of pairs, those of the hull, and the line of counts.
use mathlib.Core.List.{◌++◌}
use native.Mathlib.Omega.{arith}
use lib.ListN.{length-append}
use Rattle.printing.specs.parts.Text.{ascii}
use Rattle.octets.specs.laws.Wrote.{wrote_then}
use Rattle.mend.specs.change_lines.ChangeLines.{change_lines}
use Rattle.mend.specs.box_line.BoxLine.{box_line}
use Rattle.mend.specs.text.MendText.{mend_text}
use Rattle.mend.proofs.text.mend_text.Goals as goal

pub head-a-requires : goal.head-a-requires
unfolding mend_text
head-a-requires c =
    (rw c.wide-p.ensures (omega (arith, c.before.before.before.before.before.requires.0)), omega (arith, simp length-append at c.before.before.before.before.before.requires.1))

pub head-b-requires : goal.head-b-requires
unfolding mend_text
head-b-requires c =
    rw c.wide-p.ensures (omega (arith, c.before.before.before.before.before.requires.0), omega (arith, simp length-append at c.before.before.before.before.before.requires.1))

pub change_lines-c-requires : goal.change_lines-c-requires
unfolding mend_text
change_lines-c-requires c =
    let pairs = rw c.wide-p.ensures at c.head-b.ensures in
    rw (c.wide-p.ensures, c.wide-h.ensures) (c.before.before.before.before.before.requires.0, omega (arith, pairs.place, simp length-append at c.before.before.before.before.before.requires.1))

pub counts_line-requires : goal.counts_line-requires
unfolding mend_text
counts_line-requires c =
    let pairs = rw c.wide-p.ensures at c.head-b.ensures in
    let hull = rw (c.wide-p.ensures, c.wide-h.ensures) at c.change_lines-c.ensures in
    omega (arith, pairs.place, hull.place, simp length-append at c.before.before.before.before.before.requires.1)

pub returns : goal.returns
unfolding mend_text
returns c =
    let pairs = rw c.wide-p.ensures at c.head-b.ensures in
    let hull = rw (c.wide-p.ensures, c.wide-h.ensures) at c.change_lines-c.ensures in
    let a = c.before.before.before.before.before.args in
    wrote_then
    (wrote_then {s = box_line a.first.now ++ change_lines (ascii "pair") a.changes.now 0 a.pairs} (wrote_then c.head-a.ensures pairs) hull)
    c.counts_line.ensures
