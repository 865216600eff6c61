-- The loop keeps `Going`.
use Rattle.flipping.specs.stores.laws.Round.{Going}
use Rattle.flipping.proofs.stores.round.Given as goal

abbrev pub invariant-loop : goal.invariant-loop
invariant-loop l = Going l.fn.halfedges l.fn.lost l.fn.kept l.e l.low l.counter
