-- `cutting::meet::bisector_at`: each answer by the test that leads to it.
use mathlib.Core.Path.{refl}
use Rattle.cutting.specs.meet.Crossing.{bisector_at}
use Rattle.cutting.proofs.meet.bisector_at.Statement.{statement}
use Rattle.cutting.proofs.meet.bisector_at.Tie as tie

returns : tie.Need-returns-then-z-a
unfolding bisector_at
returns c = rw (← c.along-a.ensures, ← c.along-z.ensures, c.if-z-a.true) refl

returns-2 : tie.Need-returns-else-z-a
unfolding bisector_at
returns-2 c =
    let t = c in
    rw (← t.along-a.ensures, ← t.along-z.ensures, t.if-z-a.false, ← c.across.ensures, ← c.across-else-z-a.ensures) c.slant.ensures

pub bisector_at_spec : {M : Type 1} → statement M
bisector_at_spec = tie.close (tie.spec (λ c κs. tt) (λ c κs. tt) (λ c κs. tt) (λ c κs. tt) (λ c κs. tt) returns returns-2)
