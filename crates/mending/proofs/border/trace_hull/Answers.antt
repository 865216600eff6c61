-- The table leads from site to site, and the loop begins on it.
use Rattle.std.proofs.Common.{arith}
use Rattle.mending.specs.border.laws.Leads.{closed_table, on_table}
use Rattle.mending.proofs.border.trace_hull.Goals as goal

pub trace-requires : goal.trace-requires
trace-requires c = (
  closed_table _ _ _ _ c.lead_all.ensures c.requires.0 (omega (arith, c.requires.2)),
  on_table _ _ _ c.begins-begin.ensures (omega (arith, c.requires.2, c.lead_all.auto.work)),
  omega (arith, c.requires.3, c.lead_all.auto.work),
)
