-- `wkb::multipoint::count_of` meets its contract: four bytes from the place 5 on.
use native.Mathlib.Omega.{arith}
use borrow.Author.Rules.{rules}
use Rattle.wkb.proofs.multipoint.count_of.Statement.{statement}
use Rattle.wkb.proofs.multipoint.count_of.Tie as tie

returns : tie.Need-returns
returns c = (c.number_at.ensures.0, omega (arith, c.number_at.ensures.1))

pub count_of_spec : {M : Type 1} → statement M
count_of_spec = tie.close (tie.spec (λ c κs. search rules) returns)
