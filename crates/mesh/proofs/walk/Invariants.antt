-- What is written below n and the walk that goes on at e are the whole walk.
use Rattle.mesh.specs.laws.WalkSteps.{WalkGoing}
use Rattle.mesh.proofs.walk.Given as goal

abbrev pub invariant-loop-n : goal.invariant-loop-n
invariant-loop-n l = WalkGoing l.fn.halfedges l.fn.s l.fn.out l.out l.e l.n
