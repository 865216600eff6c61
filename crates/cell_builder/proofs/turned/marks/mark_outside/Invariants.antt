-- The marks cover the triangles before t.
use Rattle.std.specs.Prelude.{◌≡◌, ◌*◌, length}
use Rattle.plane.specs.points.Flat.{points}
use Rattle.cell_builder.specs.turned.Marks.{Covers}
use Rattle.cell_builder.proofs.turned.marks.mark_outside.Given as goal

abbrev pub invariant-loop-t : goal.invariant-loop-t
invariant-loop-t l = length l.fn.marks ≡ 16384 → (length l.marks ≡ 16384) × Covers l.bounds (points l.count l.vertices) l.triangles l.table l.marks (3 * l.t)
