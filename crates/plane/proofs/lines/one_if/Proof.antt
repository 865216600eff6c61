-- `plane::lines::one_if`: each answer by the test.
use Rattle.plane.specs.lines.Line.{one_if}
use Rattle.plane.proofs.lines.one_if.Statement.{statement}
use Rattle.plane.proofs.lines.one_if.Tie as tie

pub one_if_spec : {M : Type 1} → statement M
unfolding one_if
one_if_spec = tie.close (tie.spec (λ c. cc) (λ c. cc))
