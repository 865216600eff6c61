-- `plane::points::abs_diff_eq`: the difference that the test takes, and the test, are the definition's.
use Rattle.plane.specs.points.Plane.{near_of}
use Rattle.plane.proofs.points.abs_diff_eq.Statement.{statement}
use Rattle.plane.proofs.points.abs_diff_eq.Tie as tie

pub abs_diff_eq_spec : {M : Type 1} → statement M
unfolding near_of
abs_diff_eq_spec = tie.close (tie.spec (λ c κs. tt) (λ c. cc))
