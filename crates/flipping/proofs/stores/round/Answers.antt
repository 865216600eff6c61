-- The laws of `Going`, one for each way through the loop.
use Rattle.std.proofs.Common.{arith}
use Rattle.flipping.specs.stores.laws.Round.{round_start, round_step, round_done, round_full}
use Rattle.flipping.proofs.stores.round.Goals as goal

pub loop-init : goal.loop-init
loop-init c = round_start _ _ _

pub returns-then-halfedges-at : goal.returns-then-halfedges-at
returns-then-halfedges-at c = round_done _ _ _ _ _ _ c.loop.invariant (omega arith)

pub loop-preserved : goal.loop-preserved
loop-preserved c =
    round_step _ _ _ _ _ _ c.loop.invariant _ _ (omega arith) (omega arith) c.less-low.ensures (rw c.wide-at.ensures at c.turn-e.ensures)

pub returns : goal.returns
returns c = round_full _ _ _ _ _ _ c.loop.invariant (omega arith)
