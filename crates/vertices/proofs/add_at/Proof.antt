-- `vertices::add_at` meets its contract: it adds the point of these coordinates.
use borrow.Author.Rules.{rules}
use Rattle.vertices.proofs.add_at.Statement.{statement}
use Rattle.vertices.proofs.add_at.Tie as tie

returns : tie.Need-returns
returns c = c.add_new_vertex.ensures

pub add_at_spec : {M : Type 1} → statement M
add_at_spec = tie.close (tie.spec (λ c κs. search rules) (λ c. search rules) (λ c. search rules) returns)
