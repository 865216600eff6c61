-- No unit that was passed fits both coordinates.
use Rattle.std.proofs.Common.{arith, pow_mono}
use Rattle.ring_area.specs.lowest.laws.Loops.{passed_start, passed_step, passed_yes, passed_no}
use Rattle.nearest.proofs.corners.admitted.Goals as goal

pub loop-k-init : goal.loop-k-init
loop-k-init c = passed_start _ _

pub in_both-requires : goal.in_both-requires
in_both-requires c = omega (arith, c.pow.ensures, pow_mono {i = c.loop-k.k} {j = 12} (omega (arith, c.loop-k-test.true)))

pub returns-then-in_both : goal.returns-then-in_both
returns-then-in_both c = passed_yes c.loop-k.invariant c.loop-k-test.true (rw c.pow.ensures at c.in_both.ensures) c.if-in_both.true

pub loop-k-preserved : goal.loop-k-preserved
loop-k-preserved c = passed_step c.loop-k.invariant c.loop-k-test.true (rw c.pow.ensures at c.in_both.ensures) c.if-in_both.false

pub returns : goal.returns
returns c = passed_no c.loop-k.invariant c.loop-k-test.false
