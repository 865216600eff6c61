-- n and the length of the walk that goes on at e are the length of the whole walk.
use Rattle.mesh.specs.laws.WalkSteps.{WalkCounting}
use Rattle.mesh.proofs.walk_length.Given as goal

abbrev pub invariant-loop-n : goal.invariant-loop-n
invariant-loop-n l = WalkCounting l.fn.halfedges l.fn.s l.e l.n
