-- `certifying::windows::reach` meets its contract.
use borrow.Author.Rules.{rules}
use Rattle.certifying.proofs.windows.reach.Statement.{statement}
use Rattle.certifying.proofs.windows.reach.Tie as tie

pub reach_spec : {M : Type 1} → statement M
reach_spec =
    tie.close (tie.spec (λ c κs. search rules) (λ c κs. search rules) (λ c. search rules))
