-- `reader::begin` meets its contract: the words are cleared, and then hold the start.
use borrow.Author.Tests.{lt-ltb, le-ltb}
use Rattle.reader.specs.Calls.{begin_call}
use Rattle.reader.proofs.begin.Goals as goal

pub returns-then-state-lt-STATE_WORDS : goal.returns-then-state-lt-STATE_WORDS
unfolding begin_call
returns-then-state-lt-STATE_WORDS c = rw (lt-ltb _ _ c.if-state-lt-STATE_WORDS.true)

pub returns : goal.returns
unfolding begin_call
returns c = rw (le-ltb _ _ c.if-state-lt-STATE_WORDS.false, c.store.ensures, c.fill.ensures.after (λ y h. h), c.start.ensures)
