-- Of each place before the index the region is filled, or the walk is marked.
use Rattle.std.specs.Prelude.{◌≡◌, length}
use Rattle.cell_builder.specs.turned.laws.Marking.{MarkingHull}
use Rattle.cell_builder.proofs.turned.marks.mark_hulls.Given as goal

abbrev pub invariant-loop-site : goal.invariant-loop-site
invariant-loop-site l = length l.fn.marks ≡ 16384 → MarkingHull l.halfedges l.hull l.table l.indexes l.offsets l.fn.marks l.marks l.site-index
