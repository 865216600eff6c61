-- The side that is tried is added to the half-edges passed.
use Rattle.std.specs.Prelude.{not}
use Rattle.std.proofs.Common.{ap, arith, below_more}
use Rattle.base.specs.common.laws.Decide.{granted}
use Rattle.grid.proofs.scan.check_circles.Goals as goal

pub loop-side-preserved : goal.loop-side-preserved
loop-side-preserved c = (
  c.loop-side.invariant.0,
  λ k l. below_more _ _ c.loop-side.invariant.1 (granted c.circle_at.result (ap not c.if-not-circle_at.false) c.circle_at.ensures) k (omega arith),
)
