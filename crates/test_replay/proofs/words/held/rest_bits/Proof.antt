-- `test_replay::words::held::rest_bits` meets its contract.
use Rattle.test_replay.specs.words.laws.Held.{bits_before, bits_cleared}
use Rattle.test_replay.proofs.words.held.rest_bits.Statement.{statement}
use Rattle.test_replay.proofs.words.held.rest_bits.Tie as tie

pub rest_bits_spec : {M : Type 1} → statement M
rest_bits_spec = tie.close (tie.spec (λ c. bits_before _ c.if-number-lt-REFUSED_TRIANGLE.true) (λ c. bits_cleared _ c.if-number-lt-REFUSED_TRIANGLE.false))
