-- The first i places hold their floats.
use Rattle.std.specs.Float.{nan}
use Rattle.test_replay.specs.words.Words.{float_of, pattern_of, place_of}
use Rattle.test_replay.specs.words.laws.Reading.{Loading}
use Rattle.test_replay.proofs.words.load_floats.Given as goal

abbrev pub invariant-loop-i : goal.invariant-loop-i
invariant-loop-i v = Loading nan (λ j. float_of (pattern_of v.b (place_of v.k j))) v.fn.l v.l v.i
