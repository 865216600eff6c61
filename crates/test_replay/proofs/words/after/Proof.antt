-- `test_replay::words::after` meets its contract.
use borrow.Author.Rules.{rules}
use Rattle.test_replay.specs.words.laws.Reading.{after_end, after_far, after_near}
use Rattle.test_replay.proofs.words.after.Statement.{statement}
use Rattle.test_replay.proofs.words.after.Tie as tie

returns : tie.Need-returns-then-k-ge-WORDS
returns c = after_end _ _ c.if-k-ge-WORDS.true

returns-2 : tie.Need-returns-then-n-ge-WORDS
returns-2 c = after_far _ _ c.if-k-ge-WORDS.false c.if-n-ge-WORDS.true

returns-3 : tie.Need-returns
returns-3 c = after_near _ _ c.if-k-ge-WORDS.false c.if-n-ge-WORDS.false

pub after_spec : {M : Type 1} → statement M
after_spec = tie.close (tie.spec returns returns-2 (λ c. search rules) returns-3)
