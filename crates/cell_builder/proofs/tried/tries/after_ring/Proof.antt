-- `cell_builder::tried::tries::after_ring` meets its contract: refused, only the fault counts; else the points taken again are added up.
use mathlib.Core.Path.{refl}
use Rattle.cell_builder.proofs.tried.tries.after_ring.Statement.{statement}
use Rattle.cell_builder.proofs.tried.tries.after_ring.Tie as tie

returns : tie.Need-returns-then-fault-ne0
returns c = (refl, λ z. absurd (c.if-fault-ne0.true z))

together-requires : tie.Need-together-all-requires
together-requires c κs = c.requires c.if-fault-ne0.false

returns-2 : tie.Need-returns
returns-2 c = (refl, λ z. rw c.together-all.ensures refl)

pub after_ring_spec : {M : Type 1} → statement M
after_ring_spec = tie.close (tie.spec returns together-requires returns-2)
