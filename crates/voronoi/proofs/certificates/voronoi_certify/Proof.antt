-- The box by its center and size, and the call in it.
use borrow.Author.Rules.{rules}
use Rattle.plane.specs.given.Finite.{size_fits}
use Rattle.voronoi.specs.laws.InGiven.{certify_in}
use Rattle.voronoi.proofs.certificates.voronoi_certify.Statement.{statement}
use Rattle.voronoi.proofs.certificates.voronoi_certify.Tie as tie

certify-requires : tie.Need-certify-t-requires
certify-requires c κs = rw c.by_size-given.ensures (size_fits _ _ _)

returns : tie.Need-returns
returns c = certify_in c.by_size-given.ensures c.certify-t.ensures

pub voronoi_certify_spec : {M : Type 1} → statement M
voronoi_certify_spec = tie.close (tie.spec (λ c κs. tt) certify-requires (λ c. search rules) returns)
