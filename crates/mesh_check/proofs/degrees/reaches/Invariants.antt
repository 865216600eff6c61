-- The walk up to half-edge e, which is in the mesh, is counted.
use Rattle.std.proofs.Common.{◌-◌, ◌≤◌, ◌<◌, length}
use Rattle.mesh.specs.laws.WalkSteps.{WalkCounting}
use Rattle.mesh_check.specs.degrees.Packed.{spare}
use Rattle.mesh_check.proofs.degrees.reaches.Given as goal

abbrev pub invariant-loop-n : goal.invariant-loop-n
invariant-loop-n l =
    (l._n ≤ length l.fn.halfedges) × (l.e < length l.fn.halfedges) × WalkCounting l.fn.halfedges l.fn.t l.e (l._n - 1 - spare l.fn.halfedges l.fn.t)
