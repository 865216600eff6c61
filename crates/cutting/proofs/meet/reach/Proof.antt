-- `cutting::meet::reach`: the coordinates along the side are the definition's.
use Rattle.cutting.proofs.meet.reach.Statement.{statement}
use Rattle.cutting.proofs.meet.reach.Tie as tie

returns : tie.Need-returns
returns c = rw (← c.along.ensures, ← c.along-2.ensures) c.reach_by.ensures

pub reach_spec : {M : Type 1} → statement M
reach_spec = tie.close (tie.spec (λ c κs. tt) (λ c κs. tt) (λ c κs. tt) returns)
