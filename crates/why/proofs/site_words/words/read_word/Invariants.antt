-- What is left, from the value so far, makes the same number as the whole.
use Rattle.why.specs.site_words.laws.Words.{ReadTo}
use Rattle.why.proofs.site_words.words.read_word.Given as goal

abbrev pub invariant-loop-c : goal.invariant-loop-c
invariant-loop-c l = ReadTo l.fn.word l.v l.c-index
