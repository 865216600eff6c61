-- The mesh is admitted, and the search is made; or the number is the refusal's.
use Rattle.std.proofs.Common.{refl}
use Rattle.base.specs.refusal.laws.Number.{some_number, handed_on}
use Rattle.queries.specs.laws.SharedEdge.{edge_refused}
use Rattle.queries.proofs.shared_edge.Goals as goal

pub returns-in_err-admit : goal.returns-in_err-admit
returns-in_err-admit c = rw (handed_on c.from_residual.result _ c.from_residual.ensures.1) (edge_refused c.in_err-admit.ensures _ _ _ (some_number _) refl)
