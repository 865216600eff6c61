-- `cutting::meet::cross_from`: reaches, coordinate and bisector are the definition's.
use Rattle.cutting.specs.meet.Crossing.{cross_from}
use Rattle.cutting.proofs.meet.cross_from.Statement.{statement}
use Rattle.cutting.proofs.meet.cross_from.Tie as tie

returns : tie.Need-returns
unfolding cross_from
returns c =
    let a = c in
    let f = a in
    let k = f in
    rw (← k.reach.ensures, ← k.reach-2.ensures, ← k.coordinate.ensures, ← f.flat_of.ensures, ← a.bisector_at.ensures) c.bounded.ensures

pub cross_from_spec : {M : Type 1} → statement M
cross_from_spec = tie.close (tie.spec (λ c κs. tt) (λ c κs. tt) (λ c κs. tt) (λ c κs. tt) (λ c κs. tt) (λ c κs. tt) returns)
