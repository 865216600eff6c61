-- `plane::lines::two_if`: each answer by the test.
use Rattle.plane.specs.lines.Line.{two_if}
use Rattle.plane.proofs.lines.two_if.Statement.{statement}
use Rattle.plane.proofs.lines.two_if.Tie as tie

pub two_if_spec : {M : Type 1} → statement M
unfolding two_if
two_if_spec = tie.close (tie.spec (λ c. cc) (λ c. cc))
