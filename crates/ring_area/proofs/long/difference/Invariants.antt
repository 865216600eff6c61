-- The lowest i limbs hold a less b, and what is borrowed comes from the next.
use Rattle.ring_area.specs.long.laws.Differences.{Differing}
use Rattle.ring_area.proofs.long.difference.Given as goal

abbrev pub invariant-loop-i : goal.invariant-loop-i
invariant-loop-i l = Differing l.a l.b l.fn.out l.out l.borrowed l.i
