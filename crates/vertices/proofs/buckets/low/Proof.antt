-- `vertices::buckets::low`: the sums are the definition's.
use Rattle.vertices.proofs.buckets.low.Statement.{statement}
use Rattle.vertices.proofs.buckets.low.Tie as tie

pub low_spec : {M : Type 1} → statement M
low_spec = tie.close (tie.spec (λ c κs. tt) (λ c. cc))
