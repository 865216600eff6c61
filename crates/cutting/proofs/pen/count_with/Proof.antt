-- Both answers of `count_with`, by its test.
use Rattle.cutting.specs.pen.Pen.{count_with}
use borrow.Author.Tests.{eq-eqb, ne_eqb}
use native.Mathlib.Omega.{arith}
use Rattle.cutting.proofs.pen.count_with.Statement.{statement}
use Rattle.cutting.proofs.pen.count_with.Tie as tie

add-result : tie.Need-overflow_add-result
add-result c = omega (arith, c.requires c.if-n-count.true)

returns : tie.Need-returns-then-n-count
unfolding count_with
returns c = simp (eq-eqb _ _ c.if-n-count.true)

returns-2 : tie.Need-returns
unfolding count_with
returns-2 c = simp (ne_eqb _ _ c.if-n-count.false)

pub count_with_spec : {M : Type 1} → statement M
count_with_spec =
    tie.close
    (tie.spec add-result returns returns-2)
