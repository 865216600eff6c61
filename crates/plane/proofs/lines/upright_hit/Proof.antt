-- `plane::lines::upright_hit`: the tests and the two points are the definition's.
use Rattle.plane.specs.lines.Line.{upright_hit}
use Rattle.plane.proofs.lines.upright_hit.Statement.{statement}
use Rattle.plane.proofs.lines.upright_hit.Tie as tie

pub upright_hit_spec : {M : Type 1} → statement M
unfolding upright_hit
upright_hit_spec = tie.close (tie.spec (λ c κs. tt) (λ c. c.two_if.ensures))
