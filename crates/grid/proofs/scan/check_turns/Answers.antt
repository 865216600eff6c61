-- The one that is tried is added to those passed.
use Rattle.std.specs.Prelude.{not}
use Rattle.std.proofs.Common.{ap, below_more}
use Rattle.base.specs.common.laws.Decide.{granted}
use Rattle.grid.proofs.scan.check_turns.Goals as goal

pub loop-t-preserved : goal.loop-t-preserved
loop-t-preserved c = below_more _ _ c.loop-t.invariant (granted c.turn_at.result (ap not c.if-not-turn_at.false) c.turn_at.ensures)
