-- `plane::lines::one_each`: each answer by the tests that lead to it.
use Rattle.plane.specs.lines.laws.Met.{each_both, each_side, each_level}
use Rattle.plane.proofs.lines.one_each.Statement.{statement}
use Rattle.plane.proofs.lines.one_each.Tie as tie

pub one_each_spec : {M : Type 1} → statement M
one_each_spec =
    tie.close
    (tie.spec (λ c. each_both _ _ _ _ _ _ c.before.if-s.true c.if-l.true) (λ c. each_side _ _ _ _ _ _ c.before.if-s.true c.if-l.false) (λ c κs. tt)
    (λ c. each_level _ _ _ _ _ _ c.before.if-s.false c.one_if.ensures))
