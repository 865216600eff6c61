-- The invariant is that the page is the one after so many turns.
use Rattle.std.proofs.Common.{◌≡◌}
use Rattle.root.specs.whole_root.Turn.{after}
use Rattle.root.proofs.whole_root.nearest_root.Given as goal

abbrev pub invariant-loop : goal.invariant-loop
invariant-loop l = l.page ≡ after l.m l.counter
