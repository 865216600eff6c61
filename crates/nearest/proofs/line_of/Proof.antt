-- The number is looked at first.
use Rattle.std.proofs.Common.{arith, rules, eq-eqb, ne_eqb}
use Rattle.nearest.specs.Printed.{answer_line}
use Rattle.nearest.proofs.line_of.Statement.{statement}
use Rattle.nearest.proofs.line_of.Tie as tie

returns : tie.Need-returns-then-number-eq-REFUSED_GRID
unfolding answer_line
returns c = rw (eq-eqb _ _ c.if-number-eq-REFUSED_GRID.true)

returns-2 : tie.Need-returns-then-number-ne0
unfolding answer_line
returns-2 c = rw (ne_eqb _ _ c.if-number-eq-REFUSED_GRID.false, ne_eqb _ _ c.if-number-ne0.true)

returns-3 : tie.Need-returns
unfolding answer_line
returns-3 c = rw (ne_eqb _ _ c.if-number-eq-REFUSED_GRID.false, eq-eqb _ _ c.if-number-ne0.false) c.kind_line.ensures

pub line_of_spec : {M : Type 1} → statement M
line_of_spec = tie.close (tie.spec (λ c. omega arith) returns returns-2 (λ c κs. search rules) returns-3)
