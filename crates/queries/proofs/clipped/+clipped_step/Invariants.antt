-- It ends because fewer half-edges of the fan remain each time.
use Rattle.std.specs.Prelude.{length}
use Rattle.walks.specs.neighbours.Cursor.{rest_of}
use Rattle.queries.proofs.clipped.+clipped_step.Given as goal

abbrev pub decreases-clipped_step : goal.decreases-clipped_step
decreases-clipped_step l = length (rest_of l.halfedges.now l.c.start l.c.next)
