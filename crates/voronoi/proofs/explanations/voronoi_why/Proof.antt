-- The box by its center and size, and the call in it.
use borrow.Author.Rules.{rules}
use Rattle.plane.specs.given.Finite.{size_fits}
use Rattle.voronoi.specs.laws.InGiven.{why_in}
use Rattle.voronoi.proofs.explanations.voronoi_why.Statement.{statement}
use Rattle.voronoi.proofs.explanations.voronoi_why.Tie as tie

abbrev By-size : tie.After-why_call-arg-9-1 → tie.After-by_size-given
By-size c = c.before.before.before.before.before.before.before.before.before

abbrev Why-call : tie.After-slice_known-10-1 → tie.After-why_call
Why-call c = c.before.before.before.before.before.before.before.before.before.before

why_call-requires : tie.Need-why_call-requires
why_call-requires c κs = rw (By-size c).by_size-given.ensures (size_fits _ _ _)

returns : tie.Need-returns
returns c = why_in (By-size (Why-call c).before).by_size-given.ensures (Why-call c).why_call.ensures

pub voronoi_why_spec : {M : Type 1} → statement M
voronoi_why_spec = tie.close (tie.spec (λ c κs. tt) why_call-requires (λ c. search rules) (λ c. search rules) (λ c. search rules) (λ c. search rules) (λ c. search rules) returns)
