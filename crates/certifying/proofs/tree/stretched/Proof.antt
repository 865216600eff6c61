-- `certifying::tree::stretched` meets its contract.
use borrow.Author.Rules.{rules}
use Rattle.certifying.proofs.tree.stretched.Statement.{statement}
use Rattle.certifying.proofs.tree.stretched.Tie as tie

pub stretched_spec : {M : Type 1} → statement M
stretched_spec =
    tie.close (tie.spec (λ c κs. search rules) (λ c κs. search rules) (λ c κs. search rules) (λ c κs. search rules)
    (λ c. search rules))
