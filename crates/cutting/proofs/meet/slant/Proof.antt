-- `cutting::meet::slant`: the definition's formula of both middles.
use mathlib.Core.Path.{refl}
use Rattle.cutting.specs.meet.Crossing.{slant_of}
use Rattle.cutting.proofs.meet.slant.Statement.{statement}
use Rattle.cutting.proofs.meet.slant.Tie as tie

returns : tie.Need-returns
unfolding slant_of
returns c = rw (← c.middle.ensures, ← c.middle-2.ensures) refl

pub slant_spec : {M : Type 1} → statement M
slant_spec = tie.close (tie.spec (λ c κs. tt) (λ c κs. tt) returns)
