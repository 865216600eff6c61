-- Those counted and those still to come are all that are lost.
use Rattle.std.specs.Prelude.{◌≡◌, ◌+◌, ◌≤◌, length, drop}
use Rattle.definition.specs.Measures.{lost_left}
use Rattle.cell_builder.proofs.finish.lost_corners.Given as goal

abbrev pub invariant-loop-k : goal.invariant-loop-k
invariant-loop-k l = (length l.left ≡ 4) × (l.n ≤ l.k) × (l.n + lost_left (l.first + l.k) (drop l.k l.left) l.entries ≡ lost_left l.first l.left l.entries)
