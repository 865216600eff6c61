-- `clipping::edges::ray_crossing` meets its contract: the direction and the ray are the definition's.
use Rattle.definition.specs.Cell.{edge_crossing}
use borrow.Author.Rules.{rules}
use Rattle.clipping.proofs.edges.ray_crossing.Statement.{statement}
use Rattle.clipping.proofs.edges.ray_crossing.Tie as tie

returns : tie.Need-returns
unfolding edge_crossing
returns c = cc

pub ray_crossing_spec : {M : Type 1} → statement M
ray_crossing_spec = tie.close (tie.spec (λ c κs. search rules) (λ c κs. search rules) returns)
