-- The one that is tried is added to those passed.
use Rattle.std.specs.Prelude.{not}
use Rattle.std.proofs.Common.{ap, below_more}
use Rattle.base.specs.common.laws.Decide.{granted}
use Rattle.grid.proofs.border.check_corners.Goals as goal

pub loop-i-preserved : goal.loop-i-preserved
loop-i-preserved c = below_more _ _ c.loop-i.invariant (granted c.corner_at.result (ap not c.if-not-corner_at.false) c.corner_at.ensures)
