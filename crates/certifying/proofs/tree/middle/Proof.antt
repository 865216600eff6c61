-- `certifying::tree::middle` meets its contract.
use borrow.Author.Rules.{rules}
use Rattle.certifying.proofs.tree.middle.Statement.{statement}
use Rattle.certifying.proofs.tree.middle.Tie as tie

pub middle_spec : {M : Type 1} → statement M
middle_spec =
    tie.close (tie.spec (λ c κs. search rules) (λ c κs. search rules) (λ c κs. search rules) (λ c κs. search rules)
    (λ c. search rules))
