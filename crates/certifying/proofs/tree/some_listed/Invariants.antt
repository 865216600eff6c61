-- No site that was passed is one.
use Rattle.certifying.specs.tree.laws.Search.{AskedTo}
use Rattle.certifying.proofs.tree.some_listed.Given as goal

abbrev pub invariant-loop-place : goal.invariant-loop-place
invariant-loop-place l = AskedTo l.far l.sites l.room l.fn.site l.vertices l.entries l.list l.place-index
