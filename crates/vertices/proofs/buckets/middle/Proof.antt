-- `vertices::buckets::middle`: the sums are the definition's.
use Rattle.vertices.proofs.buckets.middle.Statement.{statement}
use Rattle.vertices.proofs.buckets.middle.Tie as tie

pub middle_spec : {M : Type 1} → statement M
middle_spec = tie.close (tie.spec (λ c κs. tt) (λ c. cc))
