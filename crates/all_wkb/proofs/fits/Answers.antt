-- `all_wkb::fits` meets its contract: what is left and what was counted are the room.
use Rattle.std.proofs.Common.{arith}
use Rattle.all_wkb.specs.laws.Sizes.{counting_start, counting_next, counting_over, counting_end}
use Rattle.all_wkb.proofs.fits.Goals as goal

pub loop-s-init : goal.loop-s-init
loop-s-init c = counting_start _ _ _

pub returns-then-left-n : goal.returns-then-left-n
returns-then-left-n c =
    counting_over _ _ c.loop-s.invariant (omega (arith, c.cell_count-count.ensures)) c.size_at-n.ensures c.if-left-n.true

pub loop-s-preserved : goal.loop-s-preserved
loop-s-preserved c =
    counting_next _ _ c.loop-s.invariant (omega (arith, c.cell_count-count.ensures)) c.size_at-n.ensures c.if-left-n.false

pub returns : goal.returns
returns c = counting_end _ _ c.loop-s.invariant (omega (arith, c.loop-s-test.false, c.cell_count-count.ensures))
