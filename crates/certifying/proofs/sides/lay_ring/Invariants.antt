-- The corners that were passed are laid.
use Rattle.certifying.specs.sides.Chains.{RingLaid}
use Rattle.certifying.proofs.sides.lay_ring.Given as goal

abbrev pub invariant-loop-i : goal.invariant-loop-i
invariant-loop-i l = RingLaid l.base l.cell l.i l.fn.work l.work
