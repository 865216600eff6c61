-- `plane::given::from_edges`: each edge and the center are the definition's.
use Rattle.plane.specs.given.Given.{edges_of}
use Rattle.plane.proofs.given.from_edges.Statement.{statement}
use Rattle.plane.proofs.given.from_edges.Tie as tie

pub from_edges_spec : {M : Type 1} → statement M
unfolding edges_of
from_edges_spec = tie.close (tie.spec (λ c. cc))
