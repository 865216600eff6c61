-- `certifying::tree::widened` meets its contract.
use Rattle.certifying.specs.tree.laws.Nodes.{widens}
use borrow.Author.Rules.{rules}
use Rattle.certifying.proofs.tree.widened.Statement.{statement}
use Rattle.certifying.proofs.tree.widened.Tie as tie

returns : tie.Need-returns
returns c = widens c.lower-left.ensures c.lower-top.ensures c.higher-right.ensures c.higher-bottom.ensures

pub widened_spec : {M : Type 1} → statement M
widened_spec =
    tie.close (tie.spec (λ c κs. search rules) (λ c κs. search rules) (λ c κs. search rules) (λ c κs. search rules)
    returns)
