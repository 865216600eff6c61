-- The inner check finds the fault and leaves the work slice; the answer is its number.
use borrow.Author.Rules.{rules}
use Rattle.voronoi.specs.laws.Meshes.{numbered}
use Rattle.voronoi.proofs.meshes.voronoi_check.Statement.{statement}
use Rattle.voronoi.proofs.meshes.voronoi_check.Tie as tie

returns : tie.Need-returns
returns c = numbered _ _ _ _ _ c.check_mesh-f.ensures c.number.ensures

pub voronoi_check_spec : {M : Type 1} → statement M
voronoi_check_spec = tie.close (tie.spec (λ c κs. search rules) (λ c κs. search rules) (λ c. search rules) returns)
