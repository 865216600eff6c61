-- `certifying::sides::side_at` meets its contract.
use borrow.Author.Rules.{rules}
use Rattle.certifying.proofs.sides.side_at.Statement.{statement}
use Rattle.certifying.proofs.sides.side_at.Tie as tie

returns : tie.Need-returns
returns c = (cc, cc)

pub side_at_spec : {M : Type 1} → statement M
side_at_spec =
    tie.close
    (tie.spec (λ c. search rules) (λ c. search rules) (λ c κs. search rules) (λ c κs. search rules) (λ c. search rules)
    (λ c. search rules) (λ c. search rules) (λ c. search rules) (λ c κs. search rules) (λ c κs. search rules) returns)
