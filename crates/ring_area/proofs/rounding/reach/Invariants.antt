-- The corners that were passed are within the reach so far.
use Rattle.ring_area.specs.rounding.laws.Reaches.{ReachTo}
use Rattle.ring_area.proofs.rounding.reach.Given as goal

abbrev pub invariant-loop-entry : goal.invariant-loop-entry
invariant-loop-entry l = ReachTo l.vertices l.entries l.r.least l.r.most l.entry-index
