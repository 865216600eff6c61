-- `cutting::corner::within`: each arm is the definition at its side.
use borrow.Author.Rules.{rules}
use Rattle.cutting.proofs.corner.within.Statement.{statement}
use Rattle.cutting.proofs.corner.within.Tie as tie

pub within_spec : {M : Type 1} → statement M
within_spec =
    tie.close
    (tie.spec (λ c. search rules) (λ c κs. tt) (λ c. search rules) (λ c κs. tt) (λ c. search rules) (λ c κs. tt) (λ c. search rules) (λ c κs. tt)
    (λ c. cc) (λ c. cc) (λ c. cc) (λ c. cc))
