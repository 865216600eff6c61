-- The parts of `written_as`, each from its callee.
use Rattle.std.proofs.Common.{refl}
use Rattle.cutting.specs.pen.Pen.{written_as}
use Rattle.cutting.proofs.pen.write.Goals as goal

pub returns : goal.returns
unfolding written_as
returns c = rw (c.count_with.ensures, c.ends_with.ensures, c.add_vertex.ensures) refl
