-- The next half-edge is unpaired, and its end is the answer, or it is paired, and there is none.
use borrow.Author.Rules.{rules}
use borrow.Author.Tests.{eq-eqb, ne_eqb}
use native.Mathlib.Omega.{arith}
use Rattle.mesh.specs.laws.Next.{next_sum}
use Rattle.walks.specs.neighbours.Cursor.{last_step}
use Rattle.walks.proofs.neighbours.last_step.Statement.{statement}
use Rattle.walks.proofs.neighbours.last_step.Tie as tie

mul-if1 : tie.Need-offset_bounds-halfedges-o
mul-if1 c = record { fits = omega (arith, next_sum c.args.e) }

shared_slice_read-if1 : tie.Need-bounds-halfedges-o
shared_slice_read-if1 c = omega (arith, next_sum c.args.e)

end_site-requires : tie.Need-end_site-requires
end_site-requires c κs =
    let at_start = c in
    omega (arith, next_sum at_start.args.e)

returns : tie.Need-returns-then-halfedges-o
unfolding last_step
returns c = simp (← c.next_halfedge-o.ensures, eq-eqb _ _ c.if-halfedges-o.true, c.end_site.ensures)

returns-2 : tie.Need-returns
unfolding last_step
returns-2 c = simp (← c.next_halfedge-o.ensures, ne_eqb _ _ c.if-halfedges-o.false)

pub last_step_spec : {M : Type 1} → statement M
last_step_spec =
    tie.close (tie.spec (λ c κs. search rules) mul-if1 shared_slice_read-if1 end_site-requires returns returns-2)
