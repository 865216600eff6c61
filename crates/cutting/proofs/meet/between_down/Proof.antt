-- `cutting::meet::between_down`: each answer by the test that leads to it.
use mathlib.Core.Path.{refl}
use Rattle.cutting.specs.meet.Crossing.{between_down}
use Rattle.cutting.proofs.meet.between_down.Statement.{statement}
use Rattle.cutting.proofs.meet.between_down.Tie as tie

returns : tie.Need-returns-then-a-z
unfolding between_down
returns c = rw c.if-a-z.true refl

returns-2 : tie.Need-returns-else-a-z
unfolding between_down
returns-2 c = rw (c.if-a-z.false, ← c.magnitude.ensures, ← c.magnitude-else-a-z.ensures) refl

pub between_down_spec : {M : Type 1} → statement M
between_down_spec = tie.close (tie.spec (λ c κs. tt) (λ c κs. tt) returns returns-2)
