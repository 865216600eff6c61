-- `test_replay::words::expected` meets its contract.
use borrow.Author.Rules.{rules}
use Rattle.test_replay.specs.words.laws.Reading.{expected_word, expected_rest}
use Rattle.test_replay.proofs.words.expected.Statement.{statement}
use Rattle.test_replay.proofs.words.expected.Tie as tie

returns : tie.Need-returns-then-i-n
returns c = expected_word _ _ _ _ _ _ _ c.if-i-n.true c.after.ensures c.word.ensures

returns-2 : tie.Need-returns
returns-2 c = expected_rest _ _ _ _ _ c.if-i-n.false

pub expected_spec : {M : Type 1} → statement M
expected_spec = tie.close (tie.spec (λ c κs. search rules) (λ c κs. search rules) returns returns-2)
