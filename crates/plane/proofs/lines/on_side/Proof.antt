-- `plane::lines::on_side`: the tests are the definition's.
use Rattle.plane.proofs.lines.on_side.Statement.{statement}
use Rattle.plane.proofs.lines.on_side.Tie as tie

pub on_side_spec : {M : Type 1} → statement M
on_side_spec = tie.close (tie.spec (λ c κs. tt) (λ c. cc))
