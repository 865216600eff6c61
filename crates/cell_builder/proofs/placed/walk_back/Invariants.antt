-- What is written and what is left of the walk make the cell.
use Rattle.std.specs.Prelude.{◌-◌, ◌<◌}
use Rattle.cell_builder.specs.placed.laws.Walking.{WalkingBack}
use Rattle.cell_builder.proofs.placed.walk_back.Given as goal

abbrev pub invariant-loop-n : goal.invariant-loop-n
invariant-loop-n l = (l.at < l.n) × WalkingBack l.halfedges l.t l.at (l.end - l.at) l.fn.indexes l.indexes l.e l.n
