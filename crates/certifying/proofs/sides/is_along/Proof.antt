-- `certifying::sides::is_along` meets its contract.
use Rattle.certifying.specs.sides.Sides.{along_of, leaves_of}
use mathlib.Core.Path.{refl}
use Rattle.certifying.proofs.sides.is_along.Statement.{statement}
use Rattle.certifying.proofs.sides.is_along.Tie as tie

returns : tie.Need-returns
unfolding along_of leaves_of
returns c = refl

pub is_along_spec : {M : Type 1} → statement M
is_along_spec = tie.close (tie.spec returns)
