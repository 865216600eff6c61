-- The tests of the definition, one after the other.
use Rattle.std.proofs.Common.{eq-eqb, ne_eqb}
use Rattle.nearest.specs.Printed.{kind_line}
use Rattle.nearest.proofs.kind_line.Statement.{statement}
use Rattle.nearest.proofs.kind_line.Tie as tie

returns : tie.Need-returns-then-kind-eq1
unfolding kind_line
returns c = rw (eq-eqb _ _ c.if-kind-eq1.true)

returns-2 : tie.Need-returns-then-kind-eq2
unfolding kind_line
returns-2 c = rw (ne_eqb _ _ c.if-kind-eq1.false, eq-eqb _ _ c.if-kind-eq2.true)

returns-3 : tie.Need-returns-then-kind-eq3
unfolding kind_line
returns-3 c = rw (ne_eqb _ _ c.if-kind-eq1.false, ne_eqb _ _ c.if-kind-eq2.false, eq-eqb _ _ c.if-kind-eq3.true)

returns-4 : tie.Need-returns-then-unused-ne-EMPTY
unfolding kind_line
returns-4 c = rw (ne_eqb _ _ c.if-kind-eq1.false, ne_eqb _ _ c.if-kind-eq2.false, ne_eqb _ _ c.if-kind-eq3.false, ne_eqb _ _ c.if-unused-ne-EMPTY.true)

-- none of the three kinds, and every site is in use
returns-5 : tie.Need-returns-then-corner-ne4
unfolding kind_line
returns-5 c =
    let k = c in
    rw (ne_eqb _ _ k.if-kind-eq1.false, ne_eqb _ _ c.if-kind-eq2.false, ne_eqb _ _ c.if-kind-eq3.false, eq-eqb _ _ c.if-unused-ne-EMPTY.false, ne_eqb _ _ c.if-corner-ne4.true)

returns-6 : tie.Need-returns
unfolding kind_line
returns-6 c =
    let k = c in
    rw (ne_eqb _ _ k.if-kind-eq1.false, ne_eqb _ _ c.if-kind-eq2.false, ne_eqb _ _ c.if-kind-eq3.false, eq-eqb _ _ c.if-unused-ne-EMPTY.false, eq-eqb _ _ c.if-corner-ne4.false)

pub kind_line_spec : {M : Type 1} → statement M
kind_line_spec = tie.close (tie.spec returns returns-2 returns-3 returns-4 returns-5 returns-6)
