-- `cell_builder::rings::extensions::outward` meets its contract: the operations are the definition's.
use mathlib.Core.Path.{refl}
use Rattle.cell_builder.specs.rings.Extensions.{ray_of}
use Rattle.cell_builder.proofs.rings.extensions.outward.Statement.{statement}
use Rattle.cell_builder.proofs.rings.extensions.outward.Tie as tie

returns : tie.Need-returns
unfolding ray_of
returns c = refl

pub outward_spec : {M : Type 1} → statement M
outward_spec = tie.close (tie.spec returns)
