-- Before hull place i the definition on the places left makes the whole, and their cells are empty.
use Rattle.cell_builder.specs.tried.SlicesInvariant.{plan}
use Rattle.cell_builder.specs.turned.laws.TryLoops.{HullsAlong}
use Rattle.cell_builder.proofs.turned.loops.clip_hull.Given as goal

abbrev pub invariant-loop-i : goal.invariant-loop-i
invariant-loop-i l = HullsAlong (plan l.triangles l.halfedges l.hull l.table l.f l.offsets) l.initial.at l.fn.vertices l.fn.indexes l.i l.at l.vertices l.indexes
