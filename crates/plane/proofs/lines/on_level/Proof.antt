-- `plane::lines::on_level`: the tests are the definition's.
use Rattle.plane.proofs.lines.on_level.Statement.{statement}
use Rattle.plane.proofs.lines.on_level.Tie as tie

pub on_level_spec : {M : Type 1} → statement M
on_level_spec = tie.close (tie.spec (λ c κs. tt) (λ c. cc))
