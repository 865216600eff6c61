-- No piece that was passed has such a corner.
use Rattle.std.proofs.Common.{[]}
use Rattle.auditing.specs.nearer.Nearer.{site_nearer}
use Rattle.certifying.specs.tree.laws.Search.{NoneBefore}
use Rattle.certifying.proofs.tree.none_nearer.Given as goal

abbrev pub invariant-loop-s : goal.invariant-loop-s
invariant-loop-s l = NoneBefore (site_nearer l.far l.sites [] [] l.vertices l.offsets l.indexes) l.room l.s-index
