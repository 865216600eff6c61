-- `certifying::twins::bucket` meets its contract.
use Rattle.certifying.specs.twins.Buckets.{site_bucket}
use Rattle.certifying.proofs.twins.bucket.Goals as goal

pub returns : goal.returns
unfolding site_bucket
returns c = rw (← c.place_number.ensures.0) c.bucket.ensures
