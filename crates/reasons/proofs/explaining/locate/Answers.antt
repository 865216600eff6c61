-- Below 6 the number alone; else what the check finds, whose place fits.
use Rattle.std.proofs.Common.{◌≤◌, ◌<◌, refl, sym, subst, arith}
use Rattle.base.specs.numbers.Numbers.{refused_coordinate}
use Rattle.base.specs.refusal.Number.{number_of}
use Rattle.reasons.specs.explaining.Steps.{Located, alone, placed}
use Rattle.reasons.specs.explaining.laws.Placed.{answer_fits}
use Rattle.reasons.proofs.explaining.locate.Goals as goal

pub returns-then-number-lt-REFUSED_COORDINATE : goal.returns-then-number-lt-REFUSED_COORDINATE
returns-then-number-lt-REFUSED_COORDINATE c =
    let e = c.from-number.ensures in
    let l : number_of c.args.refusal < refused_coordinate = omega (arith, e, c.if-number-lt-REFUSED_COORDINATE.true) in
    rw e (alone l refl)

pub of_mesh-requires : goal.of_mesh-requires
of_mesh-requires c = answer_fits c.check_mesh.ensures

pub returns : goal.returns
returns c =
    let e = c.from-number.ensures in
    let l : refused_coordinate ≤ number_of c.args.refusal = omega (arith, e, c.if-number-lt-REFUSED_COORDINATE.false) in
    subst (Located _ _ _ _) (sym c.of_mesh.ensures) (placed _ l c.check_mesh.ensures)
