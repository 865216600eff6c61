-- `mend::text::head` meets its contract: the pairs, or the box.
use native.Mathlib.Omega.{arith}
use borrow.Author.Tests.{eq-eqb, ne_eqb}
use Rattle.mend.proofs.text.head.Goals as goal

pub change_lines-requires : goal.change_lines-requires
change_lines-requires c =
    (omega (arith, c.requires.0), rw (eq-eqb c.args.turn 1 c.if-turn-eq1.true) at c.requires.1)

pub returns-then-turn-eq1 : goal.returns-then-turn-eq1
returns-then-turn-eq1 c =
    rw (eq-eqb c.args.turn 1 c.if-turn-eq1.true) c.change_lines.ensures

pub box_line-requires : goal.box_line-requires
box_line-requires c =
    rw (ne_eqb c.args.turn 1 c.if-turn-eq1.false) at c.requires.1

pub returns : goal.returns
returns c =
    rw (ne_eqb c.args.turn 1 c.if-turn-eq1.false) c.box_line.ensures
