-- All places before i are as they must be.
use Rattle.std.proofs.Common.{length, get_or}
use Rattle.std.specs.Float.{nan}
use Rattle.test_replay.specs.words.Words.{bits_of, expected_bits_of}
use Rattle.test_replay.specs.words.laws.Reading.{Same}
use Rattle.test_replay.proofs.words.holds_floats.Given as goal

abbrev pub invariant-loop-i : goal.invariant-loop-i
invariant-loop-i v = Same (length v.l) (λ j. bits_of (get_or v.l j nan)) (λ j. expected_bits_of v.b v.k v.n j v.rest) v.n v.i
