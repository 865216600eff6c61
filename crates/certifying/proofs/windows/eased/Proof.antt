-- `certifying::windows::eased` meets its contract.
use borrow.Author.Rules.{rules}
use Rattle.certifying.proofs.windows.eased.Statement.{statement}
use Rattle.certifying.proofs.windows.eased.Tie as tie

pub eased_spec : {M : Type 1} → statement M
eased_spec =
    tie.close (tie.spec (λ c κs. search rules) (λ c κs. search rules) (λ c. search rules))
