-- Both answers of `repeats`, by whether there is a place yet.
use Rattle.cutting.specs.pen.Pen.{repeats}
use Rattle.cutting.proofs.pen.repeats_last.Goals as goal

pub returns-in-Some : goal.returns-in-Some
unfolding repeats
returns-in-Some c = rw c.in-Some.is c.same_place.ensures

pub returns-in-None : goal.returns-in-None
unfolding repeats
returns-in-None c = rw c.in-None.is
