-- `auditing::limit::limit` meets its contract: twice the box's area, divided.
use borrow.Author.Rules.{rules}
use Rattle.auditing.specs.limit.laws.Boxes.{limit_is}
use Rattle.auditing.proofs.limit.limit.Statement.{statement}
use Rattle.auditing.proofs.limit.limit.Tie as tie

returns : tie.Need-returns
returns c = limit_is c.box_twice-out.ensures c.scale.ensures

pub limit_spec : {M : Type 1} → statement M
limit_spec = tie.close (tie.spec (λ c κs. search rules) (λ c. search rules) (λ c κs. search rules) returns)
