-- `certifying::sides::place_number` meets its contract.
use Rattle.certifying.specs.sides.Chains.{place_number}
use native.Mathlib.Omega.{arith}
use borrow.Author.Rules.{rules}
use Rattle.certifying.proofs.sides.place_number.Statement.{statement}
use Rattle.certifying.proofs.sides.place_number.Tie as tie

returns : tie.Need-returns
unfolding place_number
returns c = (cc (c.pattern.ensures, c.pattern-2.ensures), omega arith)

pub place_number_spec : {M : Type 1} → statement M
place_number_spec = tie.close (tie.spec (λ c κs. search rules) (λ c κs. search rules) (λ c. search rules) returns)
