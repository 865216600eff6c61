-- The three answers are the cases of `column_number`, by its two tests.
use Rattle.cutting.specs.pen.Pen.{column_number}
use Rattle.cutting.proofs.pen.column_number.Statement.{statement}
use Rattle.cutting.proofs.pen.column_number.Tie as tie

returns : tie.Need-returns-then-y-top
unfolding column_number
returns c = rw c.if-y-top.true

returns-2 : tie.Need-returns-then-y-bottom
unfolding column_number
returns-2 c = rw (c.if-y-top.false, c.if-y-bottom.true)

returns-3 : tie.Need-returns
unfolding column_number
returns-3 c = rw (c.if-y-top.false, c.if-y-bottom.false)

pub column_number_spec : {M : Type 1} → statement M
column_number_spec =
    tie.close
    (tie.spec returns returns-2 returns-3)
