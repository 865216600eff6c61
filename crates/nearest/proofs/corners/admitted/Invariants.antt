-- No unit that was passed fits both coordinates.
use Rattle.std.proofs.Common.{◌^◌}
use Rattle.ring_area.specs.lowest.laws.Loops.{NoneTo}
use Rattle.nearest.specs.corners.Tried.{in_both}
use Rattle.nearest.proofs.corners.admitted.Given as goal

abbrev pub invariant-loop-k : goal.invariant-loop-k
invariant-loop-k l = NoneTo (λ j. in_both (2 ^ j) l.p) 13 l.k
