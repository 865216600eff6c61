-- Exchanges alone, and the places that are left.
use Rattle.std.proofs.Common.{◌/◌, ◌≤◌, length}
use Rattle.certifying.specs.tree.Steps.{Reordered}
use Rattle.certifying.proofs.tree.halve.Given as goal

abbrev pub invariant-loop : goal.invariant-loop
invariant-loop l = Reordered (length l.sites / 2) l.fn.room l.room × (l.lo ≤ l.hi) × (l.hi ≤ l.to)
