-- At first none has taken its place; a turn is the three half-edges of a triangle.
use Rattle.std.proofs.Common.{◌≡◌, ◌+◌, ◌*◌, length, arith}
use Rattle.mesh_check.proofs.unpaired.take_unpaired.Goals as goal

pub loop-t-init : goal.loop-t-init
loop-t-init g c = g.met.E.Entries.start c.args.triangles.now c.args.halfedges.now c.args.work.now c.requires.4

pub take_opens-requires : goal.take_opens-requires
take_opens-requires g c = (c.requires.1, c.requires.2, λ k h. rw c.loop-t.auto.work (c.requires.3 k h), omega arith, c.loop-t.invariant)

pub loop-t-preserved : goal.loop-t-preserved
loop-t-preserved g c =
    let q : 3 * c.loop-t.t + 3 ≡ 3 * (c.loop-t.t + 1) = omega arith in
    rw q at c.take_opens.ensures

pub returns : goal.returns
returns g c =
    let h : 3 * c.loop-t.t ≡ length c.args.triangles.now = omega (arith, c.requires.0) in
    rw h at c.loop-t.invariant
