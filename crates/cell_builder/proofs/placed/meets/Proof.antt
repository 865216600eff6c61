-- `cell_builder::placed::meets` meets its contract: the test is its definition's, by the one bit.
use Rattle.cell_builder.specs.placed.Placed.{meets_of}
use Rattle.cell_builder.proofs.placed.meets.Statement.{statement}
use Rattle.cell_builder.proofs.placed.meets.Tie as tie

step_back-requires : tie.Need-step_back-requires
step_back-requires c κs = let p = c.requires in (p.0 c.if-apart.true, p.1)

returns : tie.Need-returns-then-apart
unfolding meets_of
returns c = let i = c in rw (i.if-apart.true, c.step_back.ensures)

returns-2 : tie.Need-returns
unfolding meets_of
returns-2 c = rw c.if-apart.false

pub meets_spec : {M : Type 1} → statement M
meets_spec = tie.close (tie.spec step_back-requires returns returns-2)
