-- `ring_area::rounded::none_below` meets its contract: it stops at the first limb that is not 0.
use Rattle.ring_area.specs.rounded.laws.Limbs.{clear_to_start, clear_to_step, clear_to_not, clear_to_end}
use Rattle.ring_area.proofs.rounded.none_below.Goals as goal

pub loop-i-init : goal.loop-i-init
loop-i-init c = clear_to_start _ _

pub returns-then-limb-ne0 : goal.returns-then-limb-ne0
returns-then-limb-ne0 c = clear_to_not _ c.loop-i.invariant c.limb.ensures c.loop-i-test.true c.if-limb-ne0.true

pub loop-i-preserved : goal.loop-i-preserved
loop-i-preserved c = clear_to_step _ c.loop-i.invariant c.limb.ensures c.loop-i-test.true c.if-limb-ne0.false

pub returns : goal.returns
returns c = clear_to_end _ c.loop-i.invariant c.loop-i-test.false
