-- `certifying::sides::left_once` meets its contract: each side is counted as it leaves the corner or reaches it.
use Rattle.std.proofs.Common.{arith}
use Rattle.certifying.specs.sides.laws.Inserting.{side_to}
use Rattle.certifying.specs.sides.laws.Tallies.{bit_from, bit_small, tallies_few, tallies_step, tallies_end}
use Rattle.certifying.specs.sides.laws.Walking.{leaves_is, once_is}
use Rattle.certifying.proofs.sides.left_once.Goals as goal

pub overflow_add-left : goal.overflow_add-left
overflow_add-left c =
    omega (arith, c.requires.few, c.loop-k-test.true, (tallies_few c.loop-k.invariant).0, bit_from c.leaves.result c.from-left.ensures, bit_small c.leaves.result)

pub overflow_add-reached : goal.overflow_add-reached
overflow_add-reached c =
    omega (arith, c.requires.few, c.loop-k-test.true, (tallies_few c.loop-k.invariant).1, bit_from c.leaves-in-loop-k.result c.from-reached.ensures, bit_small c.leaves-in-loop-k.result)

pub loop-k-preserved : goal.loop-k-preserved
loop-k-preserved c =
    let to = side_to c.requires c.loop-k-test.true c.side_at-side.ensures.1 in
    tallies_step c.loop-k.invariant c.loop-k-test.true (leaves_is _ c.side_at-side.ensures.0 to c.leaves.ensures (bit_from c.leaves.result c.from-left.ensures))
    (leaves_is _ to c.side_at-side.ensures.0 c.leaves-in-loop-k.ensures (bit_from c.leaves-in-loop-k.result c.from-reached.ensures))

pub overflow_add-result : goal.overflow_add-result
overflow_add-result c = omega (arith, c.requires.few, (tallies_few c.loop-k.invariant).1, c.loop-k.invariant.most)

pub returns : goal.returns
returns c = once_is _ _ _ _ _ (tallies_end c.loop-k.invariant c.loop-k-test.false)
