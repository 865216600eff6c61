-- `vertices::buckets::narrow`: the two tests are the definition's.
use Rattle.vertices.specs.buckets.Buckets.{narrow_of}
use Rattle.vertices.proofs.buckets.narrow.Statement.{statement}
use Rattle.vertices.proofs.buckets.narrow.Tie as tie

pub narrow_spec : {M : Type 1} → statement M
unfolding narrow_of
narrow_spec = tie.close (tie.spec (λ c κs. tt) (λ c κs. tt) (λ c. cc))
