-- The offsets passed do not fall, nor does the first of the next part.
use Rattle.std.proofs.Common.{◌+◌}
use Rattle.walks.specs.shared.laws.Offsets.{RisingTo}
use Rattle.walks.proofs.shared.check_cells.Given as goal

abbrev pub invariant-loop-at : goal.invariant-loop-at
invariant-loop-at l = RisingTo l.offsets (l.at + 1)
