-- A list that is refused has no entry and no end.
use Rattle.std.proofs.Common.{refl}
use Rattle.plane_calls.specs.Plane as plane_words
use Rattle.voronoi.proofs.walking.put_listed.Goals as goal

pub returns-in-Err : goal.returns-in-Err
unfolding plane_words.bit
returns-in-Err c = rw (c.in-Err.is, c.from.ensures) (refl, refl, refl)
