-- `vertices::buckets::high`: the sums are the definition's.
use Rattle.vertices.proofs.buckets.high.Statement.{statement}
use Rattle.vertices.proofs.buckets.high.Tie as tie

pub high_spec : {M : Type 1} → statement M
high_spec = tie.close (tie.spec (λ c κs. tt) (λ c. cc))
