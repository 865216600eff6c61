-- `clipping::edges::on_edge` meets its contract, case by case.
use borrow.Author.Rules.{rules}
use Rattle.clipping.proofs.edges.on_edge.Statement.{statement}
use Rattle.clipping.proofs.edges.on_edge.Tie as tie

returns-2 : tie.Need-returns-in-One
returns-2 c = cc

returns-3 : tie.Need-returns-in-Two
returns-3 c = cc

pub on_edge_spec : {M : Type 1} → statement M
on_edge_spec =
    tie.close
    (tie.spec (λ c. search rules) (λ c. search rules) (λ c. search rules) (λ c κs. search rules) (λ c. search rules)
    returns-2 returns-3)
