-- The three answers are the cases of `hull_fault_of`, by its two tests.
use borrow.Author.Tests.{lt-ltb, le-ltb}
use Rattle.mesh_check.specs.border.Marks.{hull_fault_of}
use Rattle.mesh_check.proofs.border.hull_fault.Statement.{statement}
use Rattle.mesh_check.proofs.border.hull_fault.Tie as tie

returns : tie.Need-returns-then-kept-places
unfolding hull_fault_of
returns c = simp (lt-ltb _ _ c.if-kept-places.true)

returns-2 : tie.Need-returns-then-stray-edges
unfolding hull_fault_of
returns-2 c = simp (le-ltb _ _ c.if-kept-places.false, lt-ltb _ _ c.if-stray-edges.true)

returns-3 : tie.Need-returns
unfolding hull_fault_of
returns-3 c = simp (le-ltb _ _ c.if-kept-places.false, le-ltb _ _ c.if-stray-edges.false)

pub hull_fault_spec : {M : Type 1} → statement M
hull_fault_spec = tie.close (tie.spec returns returns-2 returns-3)
