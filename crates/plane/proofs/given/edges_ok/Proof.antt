-- `plane::given::edges_ok`: both pairs of edges are tested.
use Rattle.plane.specs.given.Given.{ok_edges}
use Rattle.plane.proofs.given.edges_ok.Statement.{statement}
use Rattle.plane.proofs.given.edges_ok.Tie as tie

pub edges_ok_spec : {M : Type 1} → statement M
unfolding ok_edges
edges_ok_spec = tie.close (tie.spec (λ c κs. tt) (λ c κs. tt) (λ c. cc))
