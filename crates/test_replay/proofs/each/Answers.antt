-- `test_replay::each` meets its contract: each record is counted once, so no count passes the number of records.
use Rattle.std.proofs.Common.{arith}
use Rattle.test_replay.specs.laws.Tallied.{tallied_none, tallied_next, tallied_total, tallied_all}
use Rattle.test_replay.proofs.each.Goals as goal

pub tallied-all-requires : goal.tallied-all-requires
tallied-all-requires c = omega (arith, tallied_total c.loop-i.invariant)

pub loop-i-preserved : goal.loop-i-preserved
loop-i-preserved c = tallied_next c.loop-i.invariant c.one.ensures c.tallied-all.ensures

pub returns : goal.returns
returns c = tallied_all c.loop-i.invariant (omega arith)

pub loop-i-init : goal.loop-i-init
loop-i-init c = tallied_none
