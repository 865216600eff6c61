-- `plane::given::by_edges`: the test of rule 3 beside the box, as the definition has them.
use Rattle.plane.proofs.given.by_edges.Statement.{statement}
use Rattle.plane.proofs.given.by_edges.Tie as tie

pub by_edges_spec : {M : Type 1} → statement M
by_edges_spec = tie.close (tie.spec (λ c κs. tt) (λ c κs. tt) (λ c. cc))
