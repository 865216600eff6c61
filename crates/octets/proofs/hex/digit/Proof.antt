-- `octets::hex::digit` meets its contract: by cases on the number.
use borrow.Author.Tests.{lt-ltb, le-ltb}
use borrow.Author.Rules.{rules}
use Rattle.octets.proofs.hex.digit.Statement.{statement}
use Rattle.octets.proofs.hex.digit.Tie as tie

returns : tie.Need-returns-then-n-lt10
returns c = rw (lt-ltb c.args.n 10 c.if-n-lt10.true)

returns-2 : tie.Need-returns
returns-2 c = rw (le-ltb c.args.n 10 c.if-n-lt10.false)

pub digit_spec : {M : Type 1} → statement M
digit_spec = tie.close (tie.spec (λ c. search rules) returns (λ c. search rules) returns-2)
