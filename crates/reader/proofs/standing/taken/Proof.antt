-- `reader::standing::taken` meets its contract: what is to come is taken off, where it is not more.
use native.Mathlib.Omega.{arith}
use borrow.Author.Rules.{rules}
use Rattle.reader.proofs.standing.taken.Statement.{statement}
use Rattle.reader.proofs.standing.taken.Tie as tie

returns : tie.Need-returns-then-all-r
returns c = omega (arith, c.bodies-all.ensures.0, c.if-all-r.true)

returns-2 : tie.Need-returns
returns-2 c = rw c.bodies-all.ensures.0

pub taken_spec : {M : Type 1} → statement M
taken_spec =
    tie.close
    (tie.spec (λ c κs. search rules) returns returns-2)
