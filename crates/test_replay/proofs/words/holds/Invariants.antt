-- All places before i are as they must be.
use Rattle.std.proofs.Common.{length, get_or}
use Rattle.test_replay.specs.words.Words.{expected_of}
use Rattle.test_replay.specs.words.laws.Reading.{Same}
use Rattle.test_replay.proofs.words.holds.Given as goal

abbrev pub invariant-loop-i : goal.invariant-loop-i
invariant-loop-i v = Same (length v.l) (λ j. get_or v.l j 0) (λ j. expected_of v.b v.k v.n j v.rest) v.n v.i
