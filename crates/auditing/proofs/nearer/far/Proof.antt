-- `auditing::nearer::far` meets its contract.
use Rattle.auditing.specs.nearer.laws.Pieces.{far_is}
use borrow.Author.Rules.{rules}
use Rattle.auditing.proofs.nearer.far.Statement.{statement}
use Rattle.auditing.proofs.nearer.far.Tie as tie

returns : tie.Need-returns
returns c = far_is _ _ c.width.ensures c.height.ensures c.tolerance.ensures

pub far_spec : {M : Type 1} → statement M
far_spec = tie.close (tie.spec (λ c κs. search rules) (λ c κs. search rules) (λ c κs. search rules) returns)
