-- `test_replay::words::word` meets its contract: four bytes make it.
use borrow.Author.Rules.{rules}
use Rattle.test_replay.specs.words.laws.Reading.{word_none, word_some}
use Rattle.test_replay.proofs.words.word.Statement.{statement}
use Rattle.test_replay.proofs.words.word.Tie as tie

returns : tie.Need-returns-then-k-ge-WORDS
returns c = word_none _ _ c.if-k-ge-WORDS.true

returns-2 : tie.Need-returns
returns-2 c = word_some _ _ _ _ _ _ c.if-k-ge-WORDS.false c.byte.ensures.0
    c.byte-2.ensures.0 c.byte-3.ensures.0 c.byte-4.ensures.0

pub word_spec : {M : Type 1} → statement M
word_spec =
    tie.close
    (tie.spec returns (λ c. search rules) (λ c κs. search rules) (λ c. search rules) (λ c κs. search rules)
    (λ c. search rules) (λ c. search rules) (λ c. search rules) (λ c κs. search rules) (λ c. search rules)
    (λ c. search rules) (λ c. search rules) (λ c κs. search rules) (λ c. search rules) (λ c. search rules) returns-2)
