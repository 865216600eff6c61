-- `clipping::corners::side_of` meets its contract: it asks for the side of the vertex that the store gives.
use borrow.Author.Rules.{rules}
use mathlib.Core.Path.{ap, ◌∙◌}
use Rattle.plane.specs.sides.Sides.{which_of}
use Rattle.clipping.proofs.corners.side_of.Statement.{statement}
use Rattle.clipping.proofs.corners.side_of.Tie as tie

returns : tie.Need-returns
returns c = c.which_edge.ensures ∙ ap (which_of c.args.bounds) c.vertex.ensures

pub side_of_spec : {M : Type 1} → statement M
side_of_spec = tie.close (tie.spec (λ c κs. search rules) (λ c κs. search rules) (λ c. search rules) returns)
