-- `auditing::places::bucket` meets its contract.
use borrow.Author.Rules.{rules}
use Rattle.auditing.specs.places.Buckets.{bucket_of}
use Rattle.auditing.proofs.places.bucket.Statement.{statement}
use Rattle.auditing.proofs.places.bucket.Tie as tie

returns : tie.Need-returns
unfolding bucket_of
returns c = cc (c.pattern-x.ensures, c.pattern-y.ensures)

pub bucket_spec : {M : Type 1} → statement M
bucket_spec = tie.close (tie.spec (λ c κs. search rules) (λ c κs. search rules) (λ c. search rules) returns)
