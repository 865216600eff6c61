-- `cutting::meet::bounded`: each answer by the test that leads to it.
use Rattle.cutting.specs.meet.Crossing.{bounded_of}
use Rattle.cutting.proofs.meet.bounded.Statement.{statement}
use Rattle.cutting.proofs.meet.bounded.Tie as tie

returns : tie.Need-returns-then-a-z
unfolding bounded_of
returns c = rw c.if-a-z.true c.clamp.ensures

returns-2 : tie.Need-returns-else-a-z
unfolding bounded_of
returns-2 c = rw c.if-a-z.false c.clamp-else-a-z.ensures

pub bounded_spec : {M : Type 1} → statement M
bounded_spec = tie.close (tie.spec (λ c κs. tt) (λ c κs. tt) returns returns-2)
