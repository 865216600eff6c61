-- `test_replay::words::expected_bits` meets its contract.
use borrow.Author.Rules.{rules}
use Rattle.test_replay.specs.words.laws.Reading.{expected_pattern, expected_bits_rest}
use Rattle.test_replay.proofs.words.expected_bits.Statement.{statement}
use Rattle.test_replay.proofs.words.expected_bits.Tie as tie

returns : tie.Need-returns-then-i-n
returns c = expected_pattern _ _ _ _ _ _ c.if-i-n.true (rw (← c.after.ensures, ← c.after-then-i-n.ensures) c.pattern.ensures)

returns-2 : tie.Need-returns
returns-2 c = expected_bits_rest _ _ _ _ _ c.if-i-n.false

pub expected_bits_spec : {M : Type 1} → statement M
expected_bits_spec =
    tie.close (tie.spec (λ c κs. search rules) (λ c κs. search rules) (λ c κs. search rules) returns returns-2)
