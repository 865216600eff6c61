-- Each half-edge is one step of `leads_to`.
use Rattle.mending.specs.border.laws.Tracing.{lead_next, lead_start}
use Rattle.mending.proofs.border.lead_all.Goals as goal

pub loop-e-init : goal.loop-e-init
loop-e-init c = lead_start _ _ _ _ c.clear.ensures

pub loop-e-preserved : goal.loop-e-preserved
loop-e-preserved c = lead_next _ _ _ _ _ _ c.loop-e.invariant c.lead.ensures
