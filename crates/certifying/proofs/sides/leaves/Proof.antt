-- `certifying::sides::leaves` meets its contract.
use Rattle.certifying.specs.sides.Sides.{along_of, leaves_of}
use mathlib.Core.Path.{refl}
use Rattle.certifying.proofs.sides.leaves.Statement.{statement}
use Rattle.certifying.proofs.sides.leaves.Tie as tie

returns : tie.Need-returns
unfolding along_of leaves_of
returns c = refl

pub leaves_spec : {M : Type 1} → statement M
leaves_spec = tie.close (tie.spec returns)
