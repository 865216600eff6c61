-- `certifying::sides::bucket` meets its contract.
use Rattle.certifying.specs.sides.Chains.{side_bucket}
use Rattle.certifying.proofs.sides.bucket.Goals as goal

pub returns : goal.returns
unfolding side_bucket
returns c = rw (← c.place_number.ensures.0, ← c.place_number-2.ensures.0) c.bucket.ensures
