-- `test_replay::words::held::rest` meets its contract.
use Rattle.test_replay.specs.words.laws.Held.{rest_before, rest_cleared}
use Rattle.test_replay.proofs.words.held.rest.Statement.{statement}
use Rattle.test_replay.proofs.words.held.rest.Tie as tie

pub rest_spec : {M : Type 1} → statement M
rest_spec = tie.close (tie.spec (λ c. rest_before _ c.if-number-lt-REFUSED_TRIANGLE.true) (λ c. rest_cleared _ c.if-number-lt-REFUSED_TRIANGLE.false))
