-- `test_replay::words::byte` meets its contract: past the end there is 0.
use native.Mathlib.Omega.{arith}
use borrow.Author.Rules.{rules}
use mathlib.Core.Path.{refl}
use Rattle.test_replay.specs.words.laws.Reading.{past_end}
use Rattle.test_replay.proofs.words.byte.Statement.{statement}
use Rattle.test_replay.proofs.words.byte.Tie as tie

cast-result : tie.Need-overflow_cast-result
cast-result c = omega (arith, c.shared_slice_known-1.given c.args.at)

returns : tie.Need-returns-then-at-b
returns c = (refl, omega (arith, c.shared_slice_known-1.given c.args.at))

returns-2 : tie.Need-returns
returns-2 c = (past_end c.args.b.now c.args.at c.if-at-b.false, omega arith)

pub byte_spec : {M : Type 1} → statement M
byte_spec = tie.close (tie.spec (λ c. search rules) cast-result returns returns-2)
