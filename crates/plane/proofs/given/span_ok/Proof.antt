-- `plane::given::span_ok`: both edges and their order are tested.
use Rattle.plane.specs.given.Given.{ok_span}
use Rattle.plane.proofs.given.span_ok.Statement.{statement}
use Rattle.plane.proofs.given.span_ok.Tie as tie

pub span_ok_spec : {M : Type 1} → statement M
unfolding ok_span
span_ok_spec = tie.close (tie.spec (λ c κs. tt) (λ c κs. tt) (λ c. cc))
