-- `cutting::meet::upward`: what does not pass below passes above.
use mathlib.Core.Path.{refl}
use Rattle.cutting.proofs.meet.upward.Statement.{statement}
use Rattle.cutting.proofs.meet.upward.Tie as tie

returns : tie.Need-returns
returns c = rw (← c.passes_down.ensures) refl

pub upward_spec : {M : Type 1} → statement M
upward_spec = tie.close (tie.spec (λ c κs. tt) returns)
