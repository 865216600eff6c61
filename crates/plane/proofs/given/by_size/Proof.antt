-- `plane::given::by_size`: the test of rule 3 beside the box, as the definition has them.
use Rattle.plane.proofs.given.by_size.Statement.{statement}
use Rattle.plane.proofs.given.by_size.Tie as tie

pub by_size_spec : {M : Type 1} → statement M
by_size_spec = tie.close (tie.spec (λ c κs. tt) (λ c κs. tt) (λ c. cc))
