-- `cutting::corner::line_end`: the direction is that of the side.
use Rattle.cutting.proofs.corner.line_end.Statement.{statement}
use Rattle.cutting.proofs.corner.line_end.Tie as tie

pub line_end_spec : {M : Type 1} → statement M
line_end_spec = tie.close (tie.spec (λ c κs. tt) (λ c κs. tt) (λ c. cc))
