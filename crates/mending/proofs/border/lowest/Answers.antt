-- The first site that leads on is the lowest.
use Rattle.mending.specs.border.laws.Leads.{lowest_found, lowest_all}
use Rattle.mending.proofs.border.lowest.Goals as goal

pub returns-in-Some : goal.returns-in-Some
returns-in-Some c = let f = c.in-Some.ensures in lowest_found _ _ c.requires f.0 f.1 f.2

pub returns-in-None : goal.returns-in-None
returns-in-None c = lowest_all _ c.requires c.in-None.ensures
