-- The offsets passed do not fall, so the last of them is the largest.
use Rattle.std.proofs.Common.{◌+◌, arith}
use Rattle.walks.specs.shared.laws.Offsets.{RisingTo, rising_on, part_rising, in_order, sorted_says}
use Rattle.walks.proofs.shared.check_cells.Goals as goal
use Rattle.walks.proofs.shared.check_cells.Goals.{else-loop-at-test, then-loop-at-test+else-not-rising+else-last-at-gt16}

pub returns-then-not-rising : goal.returns-then-not-rising
returns-then-not-rising c = λ g. c.if-not-rising.ensures (part_rising _ _ _ _ (omega arith) g)

pub returns-then-not-rising-2 : goal.returns-then-not-rising-2
returns-then-not-rising-2 c = λ g. c.if-not-rising-2.ensures (part_rising _ _ _ _ (omega arith) g)

pub loop-at-preserved : goal.loop-at-preserved
loop-at-preserved c i l = rising_on _ _ _ (omega arith) c.loop-at.invariant c.if-not-rising.ensures i (omega (arith, l))

pub returns : goal.returns
returns c =
    let before : RisingTo c.args.offsets.now (c.saturating_sub-last.result + 1) = elim c.loop-at-test.branch [
      | else-loop-at-test w ↦ λ i l. c.loop-at.invariant i (omega (arith, l))
      | then-loop-at-test+else-not-rising+else-last-at-gt16 w ↦ λ i l. rising_on _ _ _ (omega arith) c.loop-at.invariant w.if-not-rising.ensures i (omega (arith, l))
    ] in
    let order = in_order _ _ (omega arith) (rising_on _ _ _ (omega arith) before c.if-not-rising-2.ensures) in
    sorted_says _ _ _ (omega arith) c.if-offsets-ne0.false order c.wide.ensures
