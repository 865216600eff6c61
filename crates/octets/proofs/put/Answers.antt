-- `octets::put` meets its contract: each byte carries `Putting` one further.
use Rattle.octets.specs.laws.Wrote.{putting_step}
use Rattle.octets.proofs.put.Goals as goal

pub loop-i-preserved : goal.loop-i-preserved
loop-i-preserved c = putting_step c.loop-i.invariant c.loop-i-test.true
