-- `plane::lines::upright`: the tests are the definition's.
use Rattle.plane.proofs.lines.upright.Statement.{statement}
use Rattle.plane.proofs.lines.upright.Tie as tie

pub upright_spec : {M : Type 1} → statement M
upright_spec = tie.close (tie.spec (λ c κs. tt) (λ c κs. tt) (λ c. cc))
