-- `why::site_words::words::read_word` meets its contract: what is left, from the value so far, makes the same number as the whole.
use Rattle.std.proofs.Common.{ap, sym, ◌∙◌, not}
use borrow.Author.Tests.{not-true, not-false}
use Rattle.why.specs.site_words.laws.Words.{reading_step, reading_other, reading_large, reading_end}
use Rattle.why.proofs.site_words.words.read_word.Goals as goal

pub returns-then-not-is_digit : goal.returns-then-not-is_digit
returns-then-not-is_digit c =
    sym (reading_other c.loop-c.invariant c.loop-c-test.true (sym c.is_digit.ensures ∙ not-true _ (ap not c.if-not-is_digit.true)))

pub returns-then-v-ge-TOP : goal.returns-then-v-ge-TOP
returns-then-v-ge-TOP c =
    let d = sym c.is_digit.ensures ∙ not-false _ (ap not c.if-not-is_digit.false) in
    sym (reading_large c.loop-c.invariant c.loop-c-test.true d c.if-v-ge-TOP.true)

pub loop-c-preserved : goal.loop-c-preserved
loop-c-preserved c =
    let d = sym c.is_digit.ensures ∙ not-false _ (ap not c.if-not-is_digit.false) in
    reading_step c.loop-c.invariant c.loop-c-test.true d c.if-v-ge-TOP.false

pub returns : goal.returns
returns c = sym (reading_end c.loop-c.invariant c.loop-c-test.false)
