-- The first i places hold their words.
use Rattle.test_replay.specs.words.laws.Reading.{Loading}
use Rattle.test_replay.specs.words.Words.{word_of, after_of}
use Rattle.test_replay.proofs.words.load.Given as goal

abbrev pub invariant-loop-i : goal.invariant-loop-i
invariant-loop-i v = Loading 0 (λ j. word_of v.b (after_of v.k j)) v.fn.l v.l v.i
