-- Each turn writes the present site and hops: what is left of the path is the whole path from where the hop goes.
use Rattle.walks.specs.paths.laws.PathLoops.{Writing}
use Rattle.walks.proofs.paths.path.Given as goal

abbrev pub invariant-loop-n : goal.invariant-loop-n
invariant-loop-n l = Writing l.sites l.triangles l.halfedges l.table l.p l.s l.fn.out l.out l.at l.n
