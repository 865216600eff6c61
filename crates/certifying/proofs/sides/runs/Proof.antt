-- `certifying::sides::runs` meets its contract.
use borrow.Author.Rules.{rules}
use Rattle.certifying.proofs.sides.runs.Statement.{statement}
use Rattle.certifying.proofs.sides.runs.Tie as tie

returns : tie.Need-returns
returns c = cc

pub runs_spec : {M : Type 1} → statement M
runs_spec = tie.close (tie.spec (λ c κs. search rules) (λ c κs. search rules) returns)
