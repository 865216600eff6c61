-- `cutting::meet::middle`: the definition's sum.
use mathlib.Core.Path.{refl}
use Rattle.cutting.specs.meet.Crossing.{middle_of}
use Rattle.cutting.proofs.meet.middle.Statement.{statement}
use Rattle.cutting.proofs.meet.middle.Tie as tie

returns : tie.Need-returns
unfolding middle_of
returns c = refl

pub middle_spec : {M : Type 1} → statement M
middle_spec = tie.close (tie.spec returns)
