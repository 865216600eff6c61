-- Each record is counted once, so no count passes the number of records.
use Rattle.test_replay.specs.Tallied.{RecordsTallied}
use Rattle.test_replay.proofs.each.Given as goal

abbrev pub invariant-loop-i : goal.invariant-loop-i
invariant-loop-i l = RecordsTallied l.i l.all
