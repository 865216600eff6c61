-- The sites that were passed have none before them, and are chained.
use Rattle.certifying.specs.twins.laws.Inserting.{HeldTo}
use Rattle.certifying.proofs.twins.first_site_twin.Given as goal

abbrev pub invariant-loop-s : goal.invariant-loop-s
invariant-loop-s l = HeldTo l.sites l.s l.initial.work l.work
