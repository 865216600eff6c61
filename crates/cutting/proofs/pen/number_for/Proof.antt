-- Both answers of `number_for`, by its test.
use Rattle.cutting.specs.pen.Pen.{number_for}
use borrow.Author.Rules.{rules}
use borrow.Author.Tests.{eq-eqb, ne_eqb}
use Rattle.cutting.proofs.pen.number_for.Statement.{statement}
use Rattle.cutting.proofs.pen.number_for.Tie as tie

returns : tie.Need-returns-then-number-eq-EMPTY
unfolding number_for
returns c = rw (eq-eqb _ _ c.if-number-eq-EMPTY.true) c.corner_number.ensures

returns-2 : tie.Need-returns
unfolding number_for
returns-2 c = rw (ne_eqb _ _ c.if-number-eq-EMPTY.false) c.wide.ensures

pub number_for_spec : {M : Type 1} → statement M
number_for_spec =
    tie.close
    (tie.spec (λ c κs. search rules) returns (λ c κs. search rules) returns-2)
