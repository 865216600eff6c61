-- Both cases of `added_vertex`, by its test.
use Rattle.cutting.specs.pen.Pen.{added_vertex}
use borrow.Author.Rules.{rules}
use borrow.Author.Tests.{eq-eqb, ne_eqb}
use lib.ListN.{length-set}
use native.Mathlib.Omega.{arith}
use Rattle.cutting.proofs.pen.add_vertex.Statement.{statement}
use Rattle.cutting.proofs.pen.add_vertex.Tie as tie

returns : tie.Need-returns-then-n-count
unfolding added_vertex
returns c = simp (ne_eqb _ _ c.if-n-count.true)

mul-vertices : tie.Need-overflow_mul-vertices
mul-vertices c = omega (arith, c.requires c.if-n-count.false)

mul-vertices-2 : tie.Need-offset_bounds-vertices-n
mul-vertices-2 c = omega (arith, c.requires c.if-n-count.false)

slice_write-vertices : tie.Need-bounds-vertices-n
slice_write-vertices c = omega (arith, c.requires c.if-n-count.false)

mul-vertices-3 : tie.Need-overflow_mul-vertices-2
mul-vertices-3 c = omega (arith, c.requires c.if-n-count.false)

add-vertices : tie.Need-overflow_add-vertices
add-vertices c = omega (arith, c.requires c.if-n-count.false)

mul-vertices-4 : tie.Need-offset_bounds-vertices-n-2
mul-vertices-4 c = omega (arith, c.requires c.if-n-count.false)

slice_write-vertices-2 : tie.Need-bounds-vertices-n-2
slice_write-vertices-2 c = simp length-set (omega (arith, c.requires c.if-n-count.false))

returns-2 : tie.Need-returns
unfolding added_vertex
returns-2 c = simp (eq-eqb _ _ c.if-n-count.false)

pub add_vertex_spec : {M : Type 1} → statement M
add_vertex_spec =
    tie.close
    (tie.spec returns mul-vertices mul-vertices-2 slice_write-vertices mul-vertices-3 add-vertices mul-vertices-4 slice_write-vertices-2 (λ c. search rules)
    returns-2)
