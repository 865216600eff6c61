-- `auditing::places::twin_of` meets its contract: the twin's number is below the site's.
use Rattle.std.proofs.Common.{arith}
use Rattle.ring_area.specs.lowest.laws.Loops.{lowest_first}
use Rattle.auditing.specs.places.Places.{twin_at}
use Rattle.auditing.proofs.places.twin_of.Goals as goal

pub overflow_cast-result : goal.overflow_cast-result
overflow_cast-result c = omega (arith, c.requires.0, c.requires.1, c.first_twin.ensures, (lowest_first (twin_at c.args.sites.now c.args.s) c.args.s).within)
