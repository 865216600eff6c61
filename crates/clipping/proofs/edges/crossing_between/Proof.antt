-- `clipping::edges::crossing_between` meets its contract: it asks for the crossing of the two vertices that the store gives.
use borrow.Author.Rules.{rules}
use Rattle.clipping.proofs.edges.crossing_between.Statement.{statement}
use Rattle.clipping.proofs.edges.crossing_between.Tie as tie

returns : tie.Need-returns
returns c = cc

pub crossing_between_spec : {M : Type 1} → statement M
crossing_between_spec =
    tie.close (tie.spec (λ c κs. search rules) (λ c κs. search rules) (λ c κs. search rules) returns)
