-- After the half-edges below e the slice is `leads_to` at e.
use Rattle.std.specs.Prelude.{◌≡◌, length}
use Rattle.mending.specs.border.Loop.{leads_to}
use Rattle.mending.proofs.border.lead_all.Given as goal

abbrev pub invariant-loop-e : goal.invariant-loop-e
invariant-loop-e l = l.work ≡ leads_to l.fn.triangles l.fn.pairs (length l.fn.work) l.e
