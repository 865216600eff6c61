-- `cutting_writer::copied::copy_ring`: what was laid in the stage is the piece, the other way round.
use Rattle.std.proofs.Common.{◌≡◌, None, rules}
use Rattle.cutting_writer.specs.copied.laws.Lapping.{lap_copied}
use Rattle.cutting_writer.proofs.copied.copy_ring.Goals as goal

pub returns : goal.returns
returns c =
    let a = c.args in
    let x = c.stage_ring.ensures c.if-not-stage_ring.false in
    let none : a.pen.ends ≡ None = search rules in
    lap_copied a.b a.halfedges.now a.centers.now a.t a.n _ x.first x.last x.lap a.pen a.indexes.now none c.put_back.ensures
