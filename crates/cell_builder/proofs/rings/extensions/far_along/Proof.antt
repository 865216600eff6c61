-- `cell_builder::rings::extensions::far_along` meets its contract: the operations are the definition's.
use mathlib.Core.Path.{refl}
use Rattle.cell_builder.specs.rings.Extensions.{far_along}
use Rattle.cell_builder.proofs.rings.extensions.far_along.Statement.{statement}
use Rattle.cell_builder.proofs.rings.extensions.far_along.Tie as tie

returns : tie.Need-returns
unfolding far_along
returns c = refl

pub far_along_spec : {M : Type 1} → statement M
far_along_spec = tie.close (tie.spec returns)
