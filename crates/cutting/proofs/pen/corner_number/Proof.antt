-- The cases of `corner_number`, by its two tests.
use Rattle.cutting.specs.pen.Pen.{corner_number}
use borrow.Author.Rules.{rules}
use Rattle.cutting.proofs.pen.corner_number.Statement.{statement}
use Rattle.cutting.proofs.pen.corner_number.Tie as tie

returns : tie.Need-returns-then-p-b
unfolding corner_number
returns c = rw c.if-p-b.true c.column_number.ensures

returns-2 : tie.Need-returns-then-p-b-2
unfolding corner_number
returns-2 c = rw (c.if-p-b.false, c.if-p-b-2.true) c.column_number-then-p-b-2.ensures

returns-3 : tie.Need-returns
unfolding corner_number
returns-3 c = rw (c.if-p-b.false, c.if-p-b-2.false)

pub corner_number_spec : {M : Type 1} → statement M
corner_number_spec =
    tie.close
    (tie.spec (λ c. search rules) (λ c κs. search rules) returns (λ c. search rules) (λ c. search rules) (λ c κs. search rules) returns-2 returns-3)
