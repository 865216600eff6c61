-- An unpaired half-edge is a turn, a paired one is passed.
use Rattle.std.proofs.Common.{ap, ◌∙◌, get_or, arith}
use Rattle.mesh_check.proofs.unpaired.take_open.Goals as goal

pub returns-then-p : goal.returns-then-p
returns-then-p g c =
    let tri = c.args.triangles.now in
    rw c.hold.ensures (g.met.E.Entries.turn tri c.args.halfedges.now c.args.work.now c.args.e c.wide-s.result c.requires.1 c.requires.2 c.requires.6 c.if-p.true
    (c.wide-s.ensures ∙ ap (λ k. get_or tri k 0) c.requires.4) (omega arith))

pub returns-else-p : goal.returns-else-p
returns-else-p g c = g.met.E.Entries.pass c.args.triangles.now c.args.halfedges.now c.args.work.now c.args.e c.requires.6 c.if-p.false
