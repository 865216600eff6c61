-- `cutting_writer::site::walk_whole`: the definition on what is left of the walk, from the present state, is the whole.
use Rattle.std.proofs.Common.{◌-◌, length}
use Rattle.cutting_writer.specs.stream.Stages.{left_of}
use Rattle.cutting_writer.specs.site.laws.Walk.{Walking}
use Rattle.cutting_writer.proofs.site.walk_whole.Given as goal

abbrev pub invariant-loop : goal.invariant-loop
invariant-loop l =
    Walking l.b l.sites l.triangles l.halfedges l.centers l.t (left_of l.fn.stage l.fn.vertices l.fn.indexes) l.fn.vertices l.w l.vertices l.indexes (length l.halfedges - l.counter)
