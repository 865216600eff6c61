-- None of the entries that were passed is less than the one before it, or one is.
use Rattle.std.specs.Prelude.{not}
use Rattle.base.specs.common.Decide.{Says}
use Rattle.walks.specs.shared.laws.Offsets.{RisingTo}
use Rattle.walks.proofs.shared.rising.Given as goal

abbrev pub invariant-loop-i : goal.invariant-loop-i
invariant-loop-i l = Says (not l.fell) (RisingTo l.b l.i)
