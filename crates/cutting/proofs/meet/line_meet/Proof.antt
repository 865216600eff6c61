-- `cutting::meet::line_meet`: each answer by the test that leads to it.
use Rattle.cutting.specs.meet.Crossing.{line_meet}
use Rattle.cutting.proofs.meet.line_meet.Statement.{statement}
use Rattle.cutting.proofs.meet.line_meet.Tie as tie

returns : tie.Need-returns-then-up_at
unfolding line_meet
returns c = rw (← c.up_at.ensures, c.if-up_at.true) c.upper_end.ensures

returns-2 : tie.Need-returns-else-up_at
unfolding line_meet
returns-2 c = rw (← c.up_at.ensures, c.if-up_at.false) c.line_end.ensures

pub line_meet_spec : {M : Type 1} → statement M
line_meet_spec = tie.close (tie.spec (λ c κs. tt) (λ c κs. tt) (λ c κs. tt) returns returns-2)
