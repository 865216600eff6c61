-- The site's two coordinates are read, and `dist2` answers.
use borrow.Author.Rules.{rules}
use Rattle.walks.specs.paths.Path.{dist_of}
use Rattle.walks.proofs.paths.distance.Statement.{statement}
use Rattle.walks.proofs.paths.distance.Tie as tie

returns : tie.Need-returns
unfolding dist_of
returns c = rw (c.dist2.ensures, c.point_at.ensures, c.wide.ensures)

pub distance_spec : {M : Type 1} → statement M
distance_spec = tie.close (tie.spec (λ c κs. search rules) (λ c κs. search rules) (λ c κs. search rules) returns)
