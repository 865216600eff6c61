-- `cutting::meet::passes_down`: each answer by the tests that lead to it.
use mathlib.Core.Path.{refl}
use Rattle.cutting.specs.meet.Crossing.{passes_down}
use Rattle.cutting.proofs.meet.passes_down.Statement.{statement}
use Rattle.cutting.proofs.meet.passes_down.Tie as tie

returns : tie.Need-returns-then-u
unfolding passes_down
returns c = rw c.if-u.true refl

returns-2 : tie.Need-returns-then-v
unfolding passes_down
returns-2 c = rw (c.if-u.false, c.if-v.true) refl

returns-3 : tie.Need-returns-else-v
unfolding passes_down
returns-3 c = rw (c.if-u.false, c.if-v.false) c.between_down.ensures

pub passes_down_spec : {M : Type 1} → statement M
passes_down_spec = tie.close (tie.spec (λ c κs. tt) returns returns-2 returns-3)
