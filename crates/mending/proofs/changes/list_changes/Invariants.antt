-- The changes below place i are written.
use Rattle.mending.specs.changes.laws.Listing.{Listing}
use Rattle.mending.proofs.changes.list_changes.Given as goal

abbrev pub invariant-loop-i : goal.invariant-loop-i
invariant-loop-i l = Listing l.fn.old l.fn.new l.fn.changes l.changes l.fn.from l.n l.i
