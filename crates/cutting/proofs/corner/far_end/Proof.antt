-- `cutting::corner::far_end`: the place is on the side.
use Rattle.cutting.proofs.corner.far_end.Statement.{statement}
use Rattle.cutting.proofs.corner.far_end.Tie as tie

pub far_end_spec : {M : Type 1} → statement M
far_end_spec = tie.close (tie.spec (λ c κs. tt) (λ c κs. tt) (λ c. cc))
