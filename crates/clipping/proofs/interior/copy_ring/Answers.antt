-- Each turn copies one entry more.
use Rattle.std.proofs.Common.{refl}
use Rattle.clipping.specs.interior.laws.RingCopy.{copied_more}
use Rattle.clipping.proofs.interior.copy_ring.Goals as goal

pub loop-k-preserved : goal.loop-k-preserved
loop-k-preserved c = copied_more _ _ _ _ c.requires.0 c.requires.1 _ c.loop-k.k c.loop-k.at _ c.loop-k-test.true c.loop-k.invariant refl
