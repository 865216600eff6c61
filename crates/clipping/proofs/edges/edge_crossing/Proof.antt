-- `clipping::edges::edge_crossing` meets its contract: the direction, the line through the rounded second point and its order on the ray are the definition's.
use Rattle.plane.specs.rays.Ray.{ray_of}
use Rattle.definition.specs.Cell.{edge_crossing}
use borrow.Author.Rules.{rules}
use Rattle.clipping.proofs.edges.edge_crossing.Statement.{statement}
use Rattle.clipping.proofs.edges.edge_crossing.Tie as tie

returns : tie.Need-returns
unfolding edge_crossing ray_of
returns c = cc

pub edge_crossing_spec : {M : Type 1} → statement M
edge_crossing_spec = tie.close (tie.spec (λ c κs. search rules) (λ c κs. search rules) (λ c κs. search rules) returns)
