-- `cutting::corner::on_side`: each arm is the definition at its side.
use borrow.Author.Rules.{rules}
use Rattle.cutting.proofs.corner.on_side.Statement.{statement}
use Rattle.cutting.proofs.corner.on_side.Tie as tie

pub on_side_spec : {M : Type 1} → statement M
on_side_spec = tie.close (tie.spec (λ c. search rules) (λ c. search rules) (λ c. search rules) (λ c. search rules) (λ c. cc) (λ c. cc) (λ c. cc) (λ c. cc))
