-- Exchanges alone.
use Rattle.std.proofs.Common.{◌/◌, length}
use Rattle.certifying.specs.tree.Steps.{Reordered}
use Rattle.certifying.proofs.tree.halve_all.Given as goal

abbrev pub invariant-loop-a : goal.invariant-loop-a
invariant-loop-a l = Reordered (length l.sites / 2) l.fn.room l.room
