-- `cutting::meet::cross_by`: each answer by the tests that lead to it.
use mathlib.Core.Path.{refl}
use Rattle.cutting.specs.meet.Crossing.{cross_by}
use Rattle.cutting.proofs.meet.cross_by.Statement.{statement}
use Rattle.cutting.proofs.meet.cross_by.Tie as tie

returns : tie.Need-returns-then-there
unfolding cross_by
returns c =
    let t = c in
    rw (← t.within-here.ensures, ← t.within-there.ensures, c.if-here.true, c.if-there.true) refl

returns-2 : tie.Need-returns-else-there
unfolding cross_by
returns-2 c =
    let t = c in
    rw (← t.within-here.ensures, ← t.within-there.ensures, c.if-here.true, c.if-there.false) c.cross_from.ensures

returns-3 : tie.Need-returns-then-there-2
unfolding cross_by
returns-3 c =
    let t = c in
    rw (← t.within-here.ensures, ← t.within-there.ensures, c.if-here.false, c.if-there-2.true) c.cross_from-then-there-2.ensures

returns-4 : tie.Need-returns-else-there-2
unfolding cross_by
returns-4 c =
    let t = c in
    rw (← t.within-here.ensures, ← t.within-there.ensures, c.if-here.false, c.if-there-2.false) refl

pub cross_by_spec : {M : Type 1} → statement M
cross_by_spec = tie.close (tie.spec (λ c κs. tt) (λ c κs. tt) (λ c κs. tt) (λ c κs. tt) returns returns-2 returns-3 returns-4)
