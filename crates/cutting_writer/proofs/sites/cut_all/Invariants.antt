-- `cutting_writer::sites::cut_all`: the definition on what is left of the table, from the present sheet, is the whole.
use Rattle.std.proofs.Common.{◌≡◌, length}
use Rattle.cutting_writer.specs.sites.Loop.{sheet}
use Rattle.cutting_writer.specs.sites.laws.Sheets.{Sheeting}
use Rattle.cutting_writer.proofs.sites.cut_all.Given as goal

abbrev pub invariant-loop-s : goal.invariant-loop-s
invariant-loop-s l =
    Sheeting l.b l.sites l.triangles l.halfedges l.centers l.table (sheet l.fn.start l.fn.vertices l.fn.indexes l.fn.offsets) l.pen l.vertices l.indexes l.offsets l.s
    × (length l.vertices ≡ length l.fn.vertices) × (length l.indexes ≡ length l.fn.indexes) × (length l.offsets ≡ length l.fn.offsets)
