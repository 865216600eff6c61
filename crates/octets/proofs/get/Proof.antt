-- `octets::get` meets its contract: in the one order or the other.
use borrow.Author.Rules.{rules}
use Rattle.octets.proofs.get.Statement.{statement}
use Rattle.octets.proofs.get.Tie as tie

returns : tie.Need-returns-then-little
returns c = (rw c.if-little.true c.get_le.ensures.0, c.get_le.ensures.1)

returns-2 : tie.Need-returns
returns-2 c = (rw c.if-little.false c.get_be.ensures.0, c.get_be.ensures.1)

pub get_spec : {M : Type 1} → statement M
get_spec = tie.close (tie.spec (λ c κs. search rules) returns (λ c κs. search rules) returns-2)
