-- `cutting::meet::flat_of`: each answer by the test that leads to it.
use Rattle.cutting.specs.meet.Crossing.{flat_of}
use Rattle.cutting.proofs.meet.flat_of.Statement.{statement}
use Rattle.cutting.proofs.meet.flat_of.Tie as tie

returns : tie.Need-returns-then-p
unfolding flat_of
returns c = rw c.if-p.true c.along.ensures

returns-2 : tie.Need-returns-else-p
unfolding flat_of
returns-2 c = rw c.if-p.false c.along-else-p.ensures

pub flat_of_spec : {M : Type 1} → statement M
flat_of_spec = tie.close (tie.spec (λ c κs. tt) (λ c κs. tt) returns returns-2)
